-- How often a name stands in the list made anew, and the entry that it has there. No place of the code stands here.
use Rattle.std.specs.Prelude.{Option, None, Some, is_some}
use Prim.Native.Nat.{ℕ, suc, ◌+◌, ◌-◌, ◌≤◌, ◌<◌}
use mathlib.Core.List.{List, [], ◌∷◌, map}
use mathlib.Core.Bool.{Bool, true, false, cond, ◌&&◌, ◌||◌}
use mathlib.Core.Path.{◌≡◌, refl, ap, sym, subst, ◌∙◌}
use native.Mathlib.Omega.{arith}
use borrow.Author.Tests.{eqb-true, eq-eqb, ne_eqb}
use lib.ListN.{length, get_or}
use lib.Dec.{eqb}
use Rattle.tree.specs.Tree.{Ident, Tree}
use Rattle.tree.specs.Check.{member}
use Rattle.tree.specs.Accepted.{All}
use Rattle.scope_map.specs.ScopeMap.{Live, get_in}
use Rattle.scope_map.specs.declared.Row.{Row}
use Rattle.semantic.specs.Rows.{ListEntry}
use Rattle.pass.specs.State.{State, Scope, binder_in}
use Rattle.pass.specs.Lists.{captured_in, captured_vars, name_of, count_of, first_of, keep}
use Rattle.pass.specs.Lambda.{name_in, names_used, holds_lambda, now_used}
use Rattle.pass_laws.specs.Sound.{IsNamed}
use Rattle.pass_laws.specs.Laws.Sound.Lists.{all_either}
use Rattle.pass_laws.specs.Laws.Sound.ListEntries.{kept_list_entries}
use Rattle.work.specs.Coded.{record_in}
use Rattle.work.specs.Scope.{before, TellsLive}
use Rattle.work.specs.Tied.{Good}
use Rattle.work.specs.declared.Pass.{Pass}
use Rattle.walk.specs.Contract.{UsesName}
use Rattle.walk.specs.Marks.{is_marked}
use Rattle.walk.specs.declared.uses.Names.{Names}
use Rattle.amending.specs.declared.amend.Ending.{Ending}
use Rattle.lists.specs.Contract.{Told}
use Rattle.lists.specs.Index.{offered}
use Rattle.lists.specs.Given.{given, with_given, StartsAbove, Gives}
use Rattle.lists.specs.Laws.Given.{captured_step, indexes_none, given-offered, given-newest}
use Rattle.amending.specs.Counts.{GivesName, CountsNow, now_of, used_in, MarksBody, TellsUsed, CountsUsed}
use Rattle.amending.specs.Kept.{list_entry_in}
use Rattle.lists.specs.Laws.Live.{live_is, Upto, upto_all, upto_back}
use Rattle.lists.specs.Laws.Bottom.{none_before}

-- In a good state live names are their binders', so the newest binder of a name has the name

named_in : (l : List (Live Ident)) → All IsNamed l → (x : ℕ) (b : Ident) → binder_in (get_in l x) ≡ Some b → b.name ≡ x
unfolding get_in
named_in [] a x b q = cc
named_in (e ∷ l) a x b q = pick (eqb e.name x) refl q (named_in l a.1 x b)
  where
    pick : (t : Bool) → eqb e.name x ≡ t → binder_in (cond t (Some e) (get_in l x)) ≡ Some b → (binder_in (get_in l x) ≡ Some b → b.name ≡ x) → b.name ≡ x
    pick true k q r = let same : e.value ≡ b = cc in ap (λ (y : Ident). y.name) (sym same) ∙ a.0 ∙ eqb-true e.name x k
    pick false k q r = r q

pub given-named : {rs : List ℕ} (ps : List ℕ) (s : State) → Good rs s → (e : Live Ident) (b : Ident) → given ps s.scope e ≡ Some b → b.name ≡ e.name
given-named ps s g e b q = named_in s.scope.names.live g.sound.named e.name b (given-newest ps s.scope e b q)

-- A name more

pub neither : (q : Bool) → ◌≡◌ {A = ℕ} (cond (q && false) 1 0) 0
neither true = refl
neither false = refl

pub count_with : (c : Scope) (o : Option Ident) (l : List ListEntry) (x y : ℕ) → ((b : Ident) → o ≡ Some b → b.name ≡ y)
    → count_of x (with_given c o l) ≡ count_of x l + cond (eqb y x && is_some (record_in o)) 1 0
unfolding count_of
count_with c None l x y h = omega (arith, neither (eqb y x))
count_with c (Some b) l x y h =
    ap (λ (n : ℕ). cond (eqb n x) (suc (count_of x l)) (count_of x l)) (h b refl) ∙ go (eqb y x)
  where
    go : (q : Bool) → cond q (suc (count_of x l)) (count_of x l) ≡ count_of x l + cond (q && true) 1 0
    go true = omega arith
    go false = omega arith

module _ {rs : List ℕ} {n : Names} {p : Pass} {w : List ℕ} {i : ℕ} {r : Row} {name : ℕ} (t : TellsLive p w i r) where
  pub gives_no : (r.name ≡ name → ⊥) → GivesName rs n p w i name (eqb r.name name)
  gives_no h = record {
    is = λ xs s e k works up.
        let q : eqb e.name name ≡ false = ne_eqb e.name name (λ z. h ((live_is t works up).0 ∙ z)) in
        ne_eqb r.name name h ∙ sym (ap (λ (b : Bool). b && is_some (record_in (given (map name_in xs) s.scope e))) q);
  }

  pub gives_yes : r.name ≡ name → {a : Option ℕ} {b : Bool} → Gives rs n p w [] i a → b ≡ is_some a → GivesName rs n p w i name b
  gives_yes h g q = record {
    is = λ xs s e k works up.
        let z : eqb e.name name ≡ true = eq-eqb e.name name (sym (live_is t works up).0 ∙ h) in
        q ∙ ap is_some (g.is xs s e k works (indexes_none (map name_in xs) s.scope) up) ∙ sym (ap (λ (b : Bool). b && is_some (record_in (given (map name_in xs) s.scope e))) z);
  }

-- The loop over the live names: those from row i on have given n entries of the name

pub record NowFrom (rs : List ℕ) (names : Names) (name n : ℕ) (s : State) (l : List (Live Ident)) : Type 0 where
  pub is : (xs : List Ident) → Told rs names xs → Good rs s → count_of name (captured_vars (map name_in xs) s) ≡ n + count_of name (captured_in (map name_in xs) s l)

module _ {rs : List ℕ} {names : Names} {p : Pass} {w : List ℕ} {name : ℕ} where
  pub now_start : Upto p w (NowFrom rs names name 0) p.scope.length
  unfolding captured_vars
  now_start = upto_all (λ s works. record { is = λ xs k g. omega arith })

  module _ {n i : ℕ} (u : Upto p w (NowFrom rs names name n) i) where
    pub now_next : {b : Bool} → GivesName rs names p w (i - 1) name b → 0 < i → i ≤ p.scope.length → {m : ℕ} → m ≡ n + cond b 1 0
        → Upto p w (NowFrom rs names name m) (i - 1)
    now_next g h most q =
        upto_back u h most
        (λ s works e up r. record {
          is = λ xs k y.
              let ps = map name_in xs in
              let l = before (i - 1) s.scope.names.live in
              let same = count_with s.scope (given ps s.scope e) (captured_in ps s l) name e.name (λ b z. given-named ps s y e b z) in
              let told = ap {B = ℕ} (λ (c : Bool). cond c 1 0) (g.is xs s e k works up) in
              omega (arith, q, r.is xs k y, same, told, ap (count_of name) (captured_step ps s e l));
        })

    pub now_last : {low : ℕ} → StartsAbove p w low → i ≡ low → CountsNow rs names p w name n
    unfolding count_of
    now_last a e = record {
      is = λ xs s k y works.
          let ps = map name_in xs in
          let rest = ap (λ (j : ℕ). count_of name (captured_in ps s (before j s.scope.names.live))) e ∙ ap (count_of name) (none_before a s ps works) in
          omega (arith, (u.is s works).is xs k y, rest);
    }

-- Those that the body uses

count-keep : (f : ℕ → Bool) (x : ℕ) (l : List ListEntry) → count_of x (keep f l) ≡ cond (f x) (count_of x l) 0
unfolding count_of keep
count-keep f x [] = go (f x)
  where
    go : (b : Bool) → ◌≡◌ {A = ℕ} 0 (cond b 0 0)
    go true = refl
    go false = refl
count-keep f x (i ∷ l) = go (f (name_of i)) refl (eqb (name_of i) x) refl (count-keep f x l)
  where
    K : List ListEntry
    K = keep f l

    go : (a : Bool) → f (name_of i) ≡ a → (q : Bool) → eqb (name_of i) x ≡ q → count_of x K ≡ cond (f x) (count_of x l) 0
        → count_of x (cond a (i ∷ K) K) ≡ cond (f x) (cond q (suc (count_of x l)) (count_of x l)) 0
    go true e false k r = rw k r
    go false e false k r = r
    go true e true k r = let z : f x
        ≡ true = ap f (sym (eqb-true (name_of i) x k)) ∙ e in rw (k, z) (let y : count_of x K ≡ count_of x l = rw z at r in ap suc y)
    go false e true k r = let z : f x ≡ false = ap f (sym (eqb-true (name_of i) x k)) ∙ e in rw z (rw z at r)

pub count-used : (b : Tree) (x : ℕ) (l : List ListEntry) → count_of x (now_used b l) ≡ cond (used_in b x) (count_of x l) 0
count-used b x l = go (holds_lambda b)
  where
    go : (h : Bool) → count_of x (cond h l (keep (λ y. member y (names_used b)) l)) ≡ cond (h || member x (names_used b)) (count_of x l) 0
    go true = refl
    go false = count-keep (λ y. member y (names_used b)) x l

-- Whether the body uses a name

module _ {rs : List ℕ} {d : Ending} {m : List ℕ} {name : ℕ} where
  pub used-held : d.holds ≡ true → TellsUsed rs d m name true
  used-held h = record { is = λ b y k. sym (ap (λ (q : Bool). q || member name (names_used b)) (sym y.holds ∙ h)) }

  module _ (h : d.holds ≡ false) where
    pub used_searched : {r : Bool} → UsesName rs d.lambda.first d.lambda.end name r → TellsUsed rs d m name r
    used_searched t = record {
      is = λ b y k. t.is y.lies.many b y.lies.stands y.lies.ends ∙ sym (ap (λ (q : Bool). q || member name (names_used b)) (sym y.holds ∙ h));
    }

    pub used_marked : {x : ℕ} → x ≡ name → x < length m → TellsUsed rs d m name (is_marked m x)
    used_marked {x} e g = record {
      is = λ b y k.
          ap (is_marked m) e
          ∙ ((k.is h).is name (omega arith)).is y.lies.many b y.lies.stands y.lies.ends
          ∙ sym (ap (λ (q : Bool). q || member name (names_used b)) (sym y.holds ∙ h));
    }

pub marks-none : {rs : List ℕ} {d : Ending} → MarksBody rs d []
marks-none = record { is = λ e. record { is = λ x h. absurd (omega arith) } }

module _ {rs : List ℕ} {d : Ending} {p : Pass} {w : List ℕ} {name : ℕ} where
  module _ {u : Bool} (t : TellsUsed rs d [] name u) where
    pub used_yes : {n : ℕ} → u ≡ true → CountsNow rs d.lambda.names p w name n → CountsUsed rs d p w [] name n
    used_yes {n} e c = record {
      is = λ xs b s k y m works z.
          let l = captured_vars (map name_in xs) s in
          c.is xs s k m works ∙ sym (count-used b name l ∙ ap (λ (q : Bool). cond q (count_of name l) 0) (sym (t.is b y marks-none) ∙ e));
    }

    pub used_no : u ≡ false → CountsUsed rs d p w [] name 0
    used_no e = record {
      is = λ xs b s k y m works z.
          let l = captured_vars (map name_in xs) s in
          sym (count-used b name l ∙ ap (λ (q : Bool). cond q (count_of name l) 0) (sym (t.is b y marks-none) ∙ e));
    }

  -- by the counts
  module _ {a : List ℕ} where
    pub count-told : {x n : ℕ} → x ≡ name → x < length a → n ≡ get_or a x 0 → CountsUsed rs d p w a name n
    count-told {x} e h q = record { is = λ xs b s k y m works z. q ∙ ap (λ (i : ℕ). get_or a i 0) e ∙ z name (omega arith) }

    pub count_searched : {n : ℕ} → CountsUsed rs d p w [] name n → CountsUsed rs d p w a name n
    count_searched c = record { is = λ xs b s k y m works z. c.is xs b s k y m works (λ x h. absurd (omega arith)) }

-- Every entry is the one that its name gives

abbrev pub Offered : List ℕ → Scope → ListEntry → Type 0
Offered ps c v = list_entry_in c (offered ps c (name_of v)) ≡ Some v

now_offered : {rs : List ℕ} (ps : List ℕ) (s : State) → Good rs s → (l : List (Live Ident)) → All (Offered ps s.scope) (captured_in ps s l)
unfolding captured_in
now_offered ps s n [] = tt
now_offered ps s n (e ∷ l) = subst (All (Offered ps s.scope)) (sym (captured_step ps s e l)) (go (given ps s.scope e) refl (now_offered ps s n l))
  where
    go : (o : Option Ident) → given ps s.scope e ≡ o → All (Offered ps s.scope) (captured_in ps s l)
        → All (Offered ps s.scope) (with_given s.scope o (captured_in ps s l))
    go None q r = r
    go (Some b) q r =
        let same = ap (λ (x : ℕ). list_entry_in s.scope (offered ps s.scope x)) (given-named ps s n e b q) in
        (same ∙ ap (list_entry_in s.scope) (given-offered ps s.scope e b q), r)

pub used-offered : {rs : List ℕ} (xs : List Ident) (b : Tree) (s : State) → Good rs s → All (Offered (map name_in xs) s.scope) (now_of xs b s)
unfolding captured_vars
used-offered xs b s n =
    let ps = map name_in xs in
    let P = Offered ps s.scope in
    let l = captured_in ps s s.scope.names.live in
    let h = now_offered ps s n s.scope.names.live in
    all_either P (holds_lambda b) l _ h (kept_list_entries P (λ x. member x (names_used b)) l h)

-- The first entry of a name

pub record FoundListEntry (P : ListEntry → Type 0) (x : ℕ) (l : List ListEntry) : Type 0 where
  pub v : ListEntry
  pub is : first_of x l ≡ Some v
  pub named : name_of v ≡ x
  pub holds : P v

pub find-some : (P : ListEntry → Type 0) (x : ℕ) (l : List ListEntry) → All P l → (count_of x l ≡ 0 → ⊥) → FoundListEntry P x l
unfolding first_of count_of
find-some P x [] a h = absurd (h refl)
find-some P x (i ∷ l) a h = go (eqb (name_of i) x) refl h (find-some P x l a.1)
  where
    go : (q : Bool) → eqb (name_of i) x ≡ q → (cond q (suc (count_of x l)) (count_of x l) ≡ 0 → ⊥) → ((count_of x l ≡ 0 → ⊥) → FoundListEntry P x l)
        → FoundListEntry P x (i ∷ l)
    go true k g r = record { v = i; is = rw k; named = eqb-true (name_of i) x k; holds = a.0 }
    go false k g r = let f = r g in record { v = f.v; is = rw k f.is; named = f.named; holds = f.holds }

pub find_none : (x : ℕ) (l : List ListEntry) → count_of x l ≡ 0 → first_of x l ≡ None
unfolding first_of count_of
find_none x [] h = refl
find_none x (i ∷ l) h = go (eqb (name_of i) x) h (find_none x l)
  where
    go : (q : Bool) → cond q (suc (count_of x l)) (count_of x l) ≡ 0 → (count_of x l ≡ 0 → first_of x l ≡ None) → cond q (Some i) (first_of x l) ≡ None
    go true e r = absurd (omega arith)
    go false e r = r e
