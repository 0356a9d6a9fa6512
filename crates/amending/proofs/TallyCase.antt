-- All names counted in one walk over the live names. No place of the code stands here.
use Rattle.std.specs.Prelude.{Option, is_some}
use Prim.Native.Nat.{ℕ, suc, ◌+◌, ◌≤◌, ◌<◌}
use mathlib.Core.List.{List, [], ◌∷◌, map}
use mathlib.Core.Bool.{Bool, true, false, cond, ◌&&◌}
use mathlib.Core.Path.{◌≡◌, refl, ap, sym, ◌∙◌}
use native.Mathlib.Omega.{arith}
use borrow.Author.Tests.{eqb-true, eqb-false, ne_eqb}
use lib.ListN.{length, get_or, set, replicate}
use lib.Seq.{get_or-set_same, get_or-set_other}
use lib.Dec.{eqb}
use Rattle.tree.specs.Tree.{Ident, Tree}
use Rattle.scope_map.specs.ScopeMap.{Live}
use Rattle.scope_map.specs.declared.Row.{Row}
use Rattle.semantic.specs.Rows.{ListEntry}
use Rattle.pass.specs.State.{State}
use Rattle.pass.specs.Lists.{captured_in, captured_vars, count_of}
use Rattle.pass.specs.Lambda.{name_in, now_used}
use Rattle.pass_laws.specs.Laws.Sound.Lists.{set_each}
use Rattle.work.specs.Coded.{record_in}
use Rattle.work.specs.Works.{Works}
use Rattle.work.specs.Scope.{before, TellsLive}
use Rattle.work.specs.Tied.{Good}
use Rattle.work.specs.declared.Pass.{Pass}
use Rattle.walk.specs.Marks.{Unmarked}
use Rattle.amending.specs.declared.amend.Ending.{Ending}
use Rattle.amending.specs.Contract.{Body}
use Rattle.lists.specs.Contract.{Told}
use Rattle.lists.specs.Index.{Indexes, Zeros}
use Rattle.lists.specs.Given.{given, with_given, Gives}
use Rattle.amending.specs.Counts.{used_in, MarksBody, TellsUsed, AtMost, CountsRow, CountsRows, CountsNames}
use Rattle.lists.specs.Laws.Live.{live_is, Upto, upto_none, all_upto, upto_next}
use Rattle.lists.specs.Laws.Given.{captured_step}
use Rattle.lists.specs.Laws.Counting.{zeros}
use Rattle.amending.proofs.NowCase.{given-named, neither, count_with, count-used}

-- One row

-- what a row adds to the count of x, by what is known of its own name n
added : (n x : ℕ) (f : ℕ → Bool) (k b : Bool) → (f n && k) ≡ b → ◌≡◌ {A = ℕ} (cond (eqb n x && (f x && k)) 1 0) (cond (eqb n x && b) 1 0)
added n x f k b h = go (eqb n x) refl
  where
    go : (q : Bool) → eqb n x ≡ q → ◌≡◌ {A = ℕ} (cond (q && (f x && k)) 1 0) (cond (q && b) 1 0)
    go true e = ap {B = ℕ} (λ (y : ℕ). cond (f y && k) 1 0) (sym (eqb-true n x e)) ∙ ap {B = ℕ} (λ (c : Bool). cond c 1 0) h
    go false e = refl

added-at : (a : List ℕ) (n x : ℕ) → x < length a → get_or (set a n (get_or a n 0 + 1)) x 0 ≡ get_or a x 0 + cond (eqb n x && true) 1 0
added-at a n x h = go (eqb n x) refl
  where
    go : (q : Bool) → eqb n x ≡ q → get_or (set a n (get_or a n 0 + 1)) x 0 ≡ get_or a x 0 + cond (q && true) 1 0
    go true e =
        let z : n ≡ x = eqb-true n x e in
        ap (λ (i : ℕ). get_or (set a i (get_or a i 0 + 1)) x 0) z ∙ get_or-set_same a x (get_or a x 0 + 1) 0 h
    go false e = let z = get_or-set_other a n x (get_or a n 0 + 1) 0 (λ q. eqb-false n x e (sym q)) in omega arith

module _ {rs : List ℕ} {d : Ending} {p : Pass} {w m : List ℕ} {i : ℕ} {r : Row} (t : TellsLive p w i r) {u : Bool} (k : TellsUsed rs d m r.name u) where
  -- whether the row's name is used
  used_is : {s : State} {e : Live Ident} {b : Tree} → Works p w s → before (suc i) s.scope.names.live ≡ e ∷ before i s.scope.names.live
      → Body rs d b → MarksBody rs d m → used_in b e.name ≡ u
  used_is {b = b} works up body mb = ap (used_in b) (sym (live_is t works up).0) ∙ sym (k.is b body mb)

  -- and gives an entry
  gives_is : {index : List (Option ℕ)} {f : Option ℕ} → Gives rs d.lambda.names p w index i f → {v : Bool} → v ≡ is_some f → u ≡ true
      → {xs : List Ident} {s : State} {e : Live Ident} {b : Tree} → Told rs d.lambda.names xs → Body rs d b → Works p w s → Indexes index (map name_in xs) s.scope
      → MarksBody rs d m → before (suc i) s.scope.names.live ≡ e ∷ before i s.scope.names.live
      → (used_in b e.name && is_some (record_in (given (map name_in xs) s.scope e))) ≡ v
  gives_is g ev q {xs} {s} {e} told body works idx mb up =
      ap (λ (c : Bool). c && is_some (record_in (given (map name_in xs) s.scope e))) (used_is works up body mb ∙ q)
      ∙ sym (ev ∙ ap is_some (g.is xs s e told works idx up))

module _ {rs : List ℕ} {d : Ending} {p : Pass} {w : List ℕ} {index : List (Option ℕ)} {m : List ℕ} {i : ℕ} {r : Row} (t : TellsLive p w i r) (a : List ℕ) (most : AtMost i a) where
  -- the counts do not have the name
  pub row_past : {n : ℕ} → n ≡ r.name → length a ≤ n → CountsRow rs d p w index m i a a
  row_past {n} named g = record {
    most = λ x. omega (arith, most x);
    is = λ xs b s e told body works idx mb up x h.
        let z : n ≡ e.name = named ∙ (live_is t works up).0 in
        let q : eqb e.name x ≡ false = ne_eqb e.name x (λ y. omega arith) in
        let none = ap {B = ℕ} (λ (c : Bool). cond (c && (used_in b x && is_some (record_in (given (map name_in xs) s.scope e)))) 1 0) q in
        omega arith;
  }

  module _ {u : Bool} (k : TellsUsed rs d m r.name u) where
    pub row_unused : u ≡ false → CountsRow rs d p w index m i a a
    row_unused q = record {
      most = λ x. omega (arith, most x);
      is = λ xs b s e told body works idx mb up x h.
          let o = is_some (record_in (given (map name_in xs) s.scope e)) in
          let none = added e.name x (used_in b) o false (ap (λ (c : Bool). c && o) (used_is t k works up body mb ∙ q)) ∙ neither (eqb e.name x) in
          omega arith;
    }

    module _ {f : Option ℕ} (g : Gives rs d.lambda.names p w index i f) {v : Bool} (ev : v ≡ is_some f) (q : u ≡ true) where
      pub row-none : v ≡ false → CountsRow rs d p w index m i a a
      row-none z = record {
        most = λ x. omega (arith, most x);
        is = λ xs b s e told body works idx mb up x h.
            let none = added e.name x (used_in b) _ false (gives_is t k g ev q told body works idx mb up ∙ z) ∙ neither (eqb e.name x) in
            omega arith;
      }

      pub row_one : {n : ℕ} → n ≡ r.name → v ≡ true → CountsRow rs d p w index m i a (set a n (get_or a n 0 + 1))
      row_one {n} named z = record {
        most = set_each (λ y. y ≤ i + 1) 0 a n (get_or a n 0 + 1) (omega (arith, most n)) (λ x. omega (arith, most x));
        is = λ xs b s e told body works idx mb up x h.
            let same : n ≡ e.name = named ∙ (live_is t works up).0 in
            let one = added e.name x (used_in b) _ true (gives_is t k g ev q told body works idx mb up ∙ z) in
            added-at a n x h ∙ ap (λ (y : ℕ). get_or a x 0 + cond (eqb y x && true) 1 0) same ∙ ap (λ (y : ℕ). get_or a x 0 + y) (sym one);
      }

-- The loop

-- the names before row i are counted

abbrev Tally : List ℕ → Ending → List (Option ℕ) → List ℕ → List ℕ → State → List (Live Ident) → Type 0
Tally rs d index m a s l =
    (xs : List Ident) (b : Tree) → Told rs d.lambda.names xs → Body rs d b → Good rs s → Indexes index (map name_in xs) s.scope → MarksBody rs d m
    → (x : ℕ) → x < length a → get_or a x 0 ≡ count_of x (now_used b (captured_in (map name_in xs) s l))

pub record TalliedTo (rs : List ℕ) (d : Ending) (p : Pass) (w : List ℕ) (index : List (Option ℕ)) (m : List ℕ) (i : ℕ) (a : List ℕ) : Type 0 where
  pub most : AtMost i a
  pub upto : Upto p w (Tally rs d index m a) i

more : (u e o : Bool) (c : ℕ) → cond u c 0 + cond (e && (u && o)) 1 0 ≡ cond u (c + cond (e && o) 1 0) 0
more true e o c = refl
more false true o c = refl
more false false o c = refl

module _ {rs : List ℕ} {d : Ending} {p : Pass} {w : List ℕ} {index : List (Option ℕ)} {m : List ℕ} where
  pub tally_start : {a : List ℕ} → Zeros a → TalliedTo rs d p w index m 0 a
  unfolding captured_in count_of
  tally_start z = record {
    most = λ x. omega (arith, z x);
    upto = upto_none (λ s works xs b told body n idx mb x h. z x ∙ sym (count-used b x [] ∙ zero_either (used_in b x)));
  }
    where
      zero_either : (u : Bool) → ◌≡◌ {A = ℕ} (cond u 0 0) 0
      zero_either true = refl
      zero_either false = refl

  module _ {i : ℕ} {a : List ℕ} (t : TalliedTo rs d p w index m i a) where
    pub tally_next : {a' : List ℕ} → CountsRow rs d p w index m i a a' → length a' ≡ length a → i < p.scope.length → TalliedTo rs d p w index m (i + 1) a'
    tally_next f e h = record {
      most = f.most;
      upto =
          upto_next t.upto h
          (λ s works v up r xs b told body n idx mb x q.
          let ps = map name_in xs in
          let o = given ps s.scope v in
          let l = before i s.scope.names.live in
          let L = captured_in ps s l in
          let k = is_some (record_in o) in
          let y = eqb v.name x in
          f.is xs b s v told body works idx mb up x (omega arith)
          ∙ ap (λ (j : ℕ). j + cond (y && (used_in b x && k)) 1 0) (r xs b told body n idx mb x (omega arith) ∙ count-used b x L)
          ∙ more (used_in b x) y k (count_of x L)
          ∙ sym (ap (λ (j : List ListEntry). count_of x (now_used b j)) (captured_step ps s v l)
          ∙ count-used b x (with_given s.scope o L)
          ∙ ap (λ (j : ℕ). cond (used_in b x) j 0) (count_with s.scope o L x v.name (λ c r. given-named ps s n v c r))));
    }

    pub tally_last : p.scope.length ≤ i → CountsRows rs d p w index m a
    unfolding captured_vars
    tally_last h = record { is = λ xs b s told body n works idx mb x q. all_upto t.upto h s works xs b told body n idx mb x q }

  pub tallied : {a : List ℕ} → CountsRows rs d p w index m a → MarksBody rs d m → CountsNames rs d p w index a
  tallied c mb = record { is = λ xs b s told body n works idx. c.is xs b s told body n works idx mb }

-- marks to begin with
pub unmarked : (n : ℕ) → Unmarked (replicate n 0)
unmarked n x = ap (λ (j : ℕ). eqb j 1) (zeros n x)
