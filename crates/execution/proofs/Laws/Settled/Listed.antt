-- The captured list of a fresh lambda that ends: one entry for each name in scope around it that is no parameter's, if an inner lambda mentioned the
-- innermost binder of that name by then; and each entry is of that binder.
use Rattle.std.specs.Prelude.{ℕ, suc, ◌≤◌, cond, not, ◌≡◌, eqb, leb, Option, Some}
use Rattle.std.proofs.lemmas.Option.{same_Some, none-some}
use mathlib.Core.List.{List, [], ◌∷◌, map, reverse_aux}
use Rattle.std.proofs.Math.Bool.{Bool, true, false, true≢false}
use Rattle.std.proofs.Math.Path.{refl, ap, subst}
use Rattle.std.proofs.Common.{sym, ◌∙◌, lt-ltb, eqb-true, ne_eqb}
use Rattle.tree.specs.Tree.{Ident}
use Rattle.tree.specs.Accepted.{All}
use Rattle.scope_map.specs.ScopeMap.{ScopeMap, Live, get_in}
use Rattle.semantic.specs.Information.{NONE}
use Rattle.semantic.specs.Rows.{ListEntry}
use Rattle.pass.specs.State.{State, entry_at, binder_in, newest, list_entry_of}
use Rattle.pass.specs.Lists.{add_captured, captured_in, captured_vars, insert_by_id, sort_by_id, count_of, name_of}
use Rattle.pass.specs.Lambda.{name_in}
use Rattle.pass_laws.specs.Laws.Says.{used_inside, is_set_in}
use Rattle.pass_laws.specs.Laws.Finds.{lives_of, Around, Stands, Finds, all_map, all_zip, live_in, search_for}
use Rattle.pass_laws.specs.Laws.Bodies.{all_rest}
use Rattle.pass_laws.specs.Laws.Sound.ListEntries.{sorted_list_entries}
use Rattle.r7rs.specs.Binding.{Binder, Place, Use, binders, find}
use Rattle.execution.specs.Acceptance.{has_name}
use Rattle.execution.proofs.Laws.Exact.Captured.{member_name, parameters_out, bottom_out, all_named, Found, all_found, find_past}

-- An entry of the list, after the uses `after`, in a lambda with the parameters xs where sc is in scope
pub record Taken (after : List Use) (xs : List Ident) (sc : List Binder) (i : ListEntry) : Type 0 where
  pub binder : Binder
  pub found : find sc binder.ident.name ≡ Some binder
  pub is : i.binder ≡ binder.ident
  pub outside : has_name binder.ident.name xs ≡ false
  pub mutated : i.info.mutated ≡ is_set_in binder.ident.at after
  pub used : used_inside binder.ident.at after ≡ true
  pub unread : i.info.read_capture_offset ≡ NONE

-- how many names x are in scope
unfoldable pub times_in : ℕ → List Binder → ℕ
times_in x [] = 0
times_in x (c ∷ sc) = cond (eqb c.ident.name x) (suc (times_in x sc)) (times_in x sc)

-- the list has these entries, and each name that it is to have as often as it is in scope
pub record Listed (after : List Use) (xs : List Ident) (sc : List Binder) (l : List ListEntry) : Type 0 where
  pub taken : All (Taken after xs sc) l
  pub times : (x : ℕ) (b : Binder) → has_name x xs ≡ false → find sc x ≡ Some b → used_inside b.ident.at after ≡ true → count_of x l ≡ times_in x sc

pub find_name : (sc : List Binder) (x : ℕ) {b : Binder} → find sc x ≡ Some b → b.ident.name ≡ x
find_name [] x e = absurd (none-some _ e)
find_name (c ∷ sc) x {b} e = go (eqb c.ident.name x) refl (λ q. find_name sc x q) e
  where
    go : (q : Bool) → eqb c.ident.name x ≡ q → (find sc x ≡ Some b → b.ident.name ≡ x) → cond q (Some c) (find sc x) ≡ Some b → b.ident.name ≡ x
    go true q k e = ap (λ (d : Binder). d.ident.name) (sym (same_Some c b e)) ∙ eqb-true c.ident.name x q
    go false q k e = k e

-- Sorting keeps counts

count_two : (x : ℕ) (i j : ListEntry) (n : ℕ) → cond (eqb (name_of i) x) (suc (cond (eqb (name_of j) x) (suc n) n)) (cond (eqb (name_of j) x) (suc n) n)
    ≡ cond (eqb (name_of j) x) (suc (cond (eqb (name_of i) x) (suc n) n)) (cond (eqb (name_of i) x) (suc n) n)
count_two x i j n = go (eqb (name_of i) x) (eqb (name_of j) x)
  where
    go : (a b : Bool) → cond a (suc (cond b (suc n) n)) (cond b (suc n) n) ≡ cond b (suc (cond a (suc n) n)) (cond a (suc n) n)
    go true true = refl
    go true false = refl
    go false true = refl
    go false false = refl

count_inserted : (x : ℕ) (i : ListEntry) (l : List ListEntry) → count_of x (insert_by_id i l) ≡ count_of x (i ∷ l)
unfolding insert_by_id count_of
count_inserted x i [] = refl
count_inserted x i (j ∷ l) = go (leb i.info.id j.info.id) (count_inserted x i l)
  where
    go : (b : Bool) → count_of x (insert_by_id i l) ≡ count_of x (i ∷ l) → count_of x (cond b (i ∷ j ∷ l) (j ∷ insert_by_id i l)) ≡ count_of x (i ∷ j ∷ l)
    go true e = refl
    go false e = ap (λ (n : ℕ). cond (eqb (name_of j) x) (suc n) n) e ∙ count_two x j i (count_of x l)

count_sorted : (x : ℕ) (l : List ListEntry) → count_of x (sort_by_id l) ≡ count_of x l
unfolding sort_by_id count_of
count_sorted x [] = refl
count_sorted x (i ∷ l) = count_inserted x i (sort_by_id l) ∙ ap (λ (n : ℕ). cond (eqb (name_of i) x) (suc n) n) (count_sorted x l)

-- The list of a lambda that ends in the state s

module _ {own : ℕ → Type 0} {bottom : List (Live Ident)} {before : List Use} {s : State} (base : ℕ) (q : Place) (xs : List Ident) (sc : List Binder)
    (f : Finds own bottom before (record { scope = reverse_aux (binders false base q 0 xs) sc; around = q.around; site = q.site }) s)
  where
    record In (b : Binder) : Type 0 where
      above : 2 ≤ b.home.layer
      captured : (entry_at s b.ident.at).captured ≡ used_inside b.ident.at before
      mutated : (entry_at s b.ident.at).mutated ≡ is_set_in b.ident.at before

    all_in : All In sc
    all_in =
        let inner = reverse_aux (binders false base q 0 xs) sc in
        all_rest In (binders false base q 0 xs) sc
        (all_map {P = λ b. Around q.site.layer q.around b × Stands own s.scope.entries before b} {Q = In}
        (λ b h. record { above = h.0.above; captured = h.1.held.captured; mutated = h.1.held.mutated }) inner (all_zip _ _ inner f.around f.stands))

    abbrev ps : List ℕ
    ps = map name_in xs

    newest_of : (x : ℕ) (b : Binder) → find sc x ≡ Some b → has_name x xs ≡ false → newest s x ≡ Some b.ident
    newest_of x b e h =
        ap binder_in ((search_for f x).found ∙ ap (λ (o : Option Binder). live_in o (get_in bottom x)) (find_past false base q 0 xs sc x h ∙ e))

    -- one name: a parameter's, or not
    one-taken : (c b : Binder) (h : Bool) (l : List ListEntry) → has_name c.ident.name xs ≡ h → find sc c.ident.name ≡ Some b → In b
        → All (Taken before xs sc) l → All (Taken before xs sc) (add_captured (not h) s (newest s c.ident.name) l)
    one-taken c b true l h e i a = a
    one-taken c b false l h e i a =
        let d = entry_at s b.ident.at in
        let name = find_name sc c.ident.name e in
        let here : d.captured ≡ true → Taken before xs sc (list_entry_of b.ident d) =
        λ k. record {
          binder = b;
          found = ap (find sc) name ∙ e;
          is = refl;
          outside = ap (λ (x : ℕ). has_name x xs) name ∙ h;
          mutated = i.mutated;
          used = sym
              i.captured ∙ k;
          unread = refl;
        } in
        rw (newest_of c.ident.name b e h) (go d.captured here)
      where
        go : {i : ListEntry} (k : Bool) → (k ≡ true → Taken before xs sc i) → All (Taken before xs sc) (cond k (i ∷ l) l)
        go true t = (t refl, a)
        go false t = a

    one-times : (c b d : Binder) (h : Bool) (l : List ListEntry) (x n : ℕ) → has_name c.ident.name xs ≡ h → find sc c.ident.name ≡ Some d → In d
        → has_name x xs ≡ false → find sc x ≡ Some b → used_inside b.ident.at before ≡ true → count_of x l ≡ n
        → count_of x (add_captured (not h) s (newest s c.ident.name) l) ≡ cond (eqb c.ident.name x) (suc n) n
    unfolding count_of
    one-times c b d true l x n h e i o g u k =
        rw (ne_eqb c.ident.name x (λ z. true≢false (sym h ∙ ap (λ (y : ℕ). has_name y xs) z ∙ o))) k
    one-times c b d false l x n h e i o g u k =
        rw (newest_of c.ident.name d e h) (go (eqb c.ident.name x) refl)
      where
        entry : Bool
        entry = (entry_at s d.ident.at).captured

        list_entry : ListEntry
        list_entry = list_entry_of d.ident (entry_at s d.ident.at)

        both : (p : Bool) → count_of x (cond p (list_entry ∷ l) l) ≡ cond p (cond (eqb d.ident.name x) (suc (count_of x l)) (count_of x l)) (count_of x l)
        both true = refl
        both false = refl

        go : (z : Bool) → eqb c.ident.name x ≡ z → count_of x (cond entry (list_entry ∷ l) l) ≡ cond z (suc n) n
        go true z =
            let same : d ≡ b = same_Some d b (sym e ∙ ap (find sc) (eqb-true c.ident.name x z) ∙ g) in
            let taken : entry ≡ true = i.captured ∙ ap (λ (y : Binder). used_inside y.ident.at before) same ∙ u in
            both entry ∙ rw (taken, find_name sc c.ident.name e, z) (ap suc k)
        go false z = both entry ∙ rw (find_name sc c.ident.name e, z) (go₂ entry)
          where
            go₂ : (p : Bool) → cond p (count_of x l) (count_of x l) ≡ n
            go₂ true = k
            go₂ false = k

    taken_in : (rest : List Binder) → All (λ c. In c × Found In sc c) rest → All (Taken before xs sc) (captured_in ps s (lives_of rest bottom))
    unfolding captured_in
    taken_in [] a = subst (All (Taken before xs sc)) (sym (bottom_out ps s bottom (all_map (λ e g. g.layer) bottom f.tables.globals))) tt
    taken_in (c ∷ rest) a =
        let g = a.0.1 in
        rw (lt-ltb 1 c.home.layer a.0.0.above, member_name c.ident.name xs)
        (one-taken c g.binder (has_name c.ident.name xs) _ refl g.is g.holds (taken_in rest a.1))

    times_in_lem : (rest : List Binder) → All (λ c. In c × Found In sc c) rest → (x : ℕ) (b : Binder) → has_name x xs ≡ false → find sc x ≡ Some b
        → used_inside b.ident.at before ≡ true → count_of x (captured_in ps s (lives_of rest bottom)) ≡ times_in x rest
    unfolding captured_in times_in count_of
    times_in_lem [] a x b o e u = ap (count_of x) (bottom_out ps s bottom (all_map (λ e g. g.layer) bottom f.tables.globals))
    times_in_lem (c ∷ rest) a x b o e u =
        let g = a.0.1 in
        rw (lt-ltb 1 c.home.layer a.0.0.above, member_name c.ident.name xs)
        (one-times c b g.binder (has_name c.ident.name xs) _ x (times_in x rest) refl g.is g.holds o e u (times_in_lem rest a.1 x b o e u))

    pub listed : Listed before xs sc (sort_by_id (captured_vars ps s))
    unfolding captured_vars
    listed =
        let all = all_zip _ _ sc all_in (all_found In sc all_in) in
        let same : captured_in ps s s.scope.names.live ≡ captured_in ps s (lives_of sc bottom) =
        ap (λ (m : ScopeMap Ident). captured_in ps s m.live) f.live
        ∙ parameters_out ps s false base q 0 xs sc bottom (all_named ps xs (λ x e. member_name x xs ∙ e)) in
        record {
          taken = sorted_list_entries (Taken before xs sc) _ (subst (All (Taken before xs sc)) (sym same) (taken_in sc all));
          times = λ x b o e u. count_sorted x _ ∙ ap (count_of x) same ∙ times_in_lem sc all x b o e u;
        }
