-- What a part of a fresh visit does, and how parts are put together.
use Rattle.std.specs.Prelude.{ℕ, ◌+◌, ◌≤◌, List, ◌++◌, ◌≡◌}
use Rattle.std.proofs.Common.{subst, arith}
use Rattle.tree.specs.Tree.{Ident}
use Rattle.scope_map.specs.ScopeMap.{Live}
use Rattle.semantic.specs.Rows.{Row}
use Rattle.r7rs.specs.Binding.{Place, Use, Event}
use Rattle.pass.specs.State.{State}
use Rattle.pass_laws.specs.Static.{Presumption}
use Rattle.pass_laws.specs.Laws.Changes.{same}
use Rattle.pass_laws.specs.Laws.Moves.{Moves, by}
use Rattle.pass_laws.specs.Laws.Keeps.{Off, Agree, narrow, earlier}
use Rattle.pass_laws.specs.Laws.Says.{cell_of, uses_in, uses-then, Says, says_append, Presumes, presumes_left, presumes_right}
use Rattle.pass_laws.specs.Laws.Finds.{Finds}
use Rattle.pass_laws.specs.Laws.Counts.{credits, credits-append, Counts, counts_as, counts_fewer}
use Rattle.pass_laws.specs.Laws.Onward.{fewer}

-- other uses that are the same
pub with_uses_lem : {own : ℕ → Type 0} {bottom : List (Live Ident)} {before after : List Use} {p : Place} {s : State} → before ≡ after → Finds own bottom before p s
    → Finds own bottom after p s
with_uses_lem {own} {bottom} {p = p} {s} e f = subst (λ (u : List Use). Finds own bottom u p s) e f

module _ (classes : List ℕ) (T : List Row) (P : Presumption) (bottom : List (Live Ident)) where
  -- After the uses `before` the visit has walked over the events l, at the records from i up to j, and is at the place p in the state s, with the
  -- records `left` to visit. Rows T with the keys of these records say what R7RS has of the events, and have the meaning A if what P presumes holds. C
  -- is what has to be counted before it.
  pub record Done (left : ℕ → Type 0) (before : List Use) (p : Place) (l : List Event) (i j : ℕ) (s : State) (A : Type 0) (C : (ℕ → ℕ) → Type 0) : Type 0 where
    pub finds : Finds left bottom (before ++ uses_in l) p s
    pub counts : (n : ℕ → ℕ) → C n → Counts left (λ y. n y + credits (cell_of bottom) l y) s
    pub says : Agree i j T s → Says classes T (cell_of bottom) before l
    pub means : Agree i j T s → Presumes P l → A

module _ {classes : List ℕ} {T : List Row} {P : Presumption} {bottom : List (Live Ident)} where
  -- what has to be counted follows from something else
  pub given : {left : ℕ → Type 0} {before : List Use} {p : Place} {l : List Event} {i j : ℕ} {s : State} {A : Type 0} {C D : (ℕ → ℕ) → Type 0} → ((n : ℕ → ℕ) → C n → D n)
      → Done classes T P bottom left before p l i j s A D → Done classes T P bottom left before p l i j s A C
  given f x = record { finds = x.finds; counts = λ n c. x.counts n (f n c); says = x.says; means = x.means }

  -- one part, and then another that writes elsewhere
  pub both : {own left : ℕ → Type 0} {before : List Use} {p q : Place} {l r : List Event} {i j k m : ℕ} {s t : State} {A B : Type 0} {C D : (ℕ → ℕ) → Type 0} (f n : ℕ) → f ≤ i → j ≤ n → f ≤ k → m ≤ n
      → Done classes T P bottom own before p l i j s A C → Moves (Off i j) s t → ((c : ℕ → ℕ) → Counts own c s → D c)
      → Done classes T P bottom left (before ++ uses_in l) q r k m t B D → Done classes T P bottom left before q (l ++ r) f n t (A × B) C
  both {before = before} {l = l} {r} {i} {j} {k} {m} {s} {t} f n a b c d x w link y =
      record {
        finds = with_uses_lem (uses-then before l r) y.finds;
        counts = λ g e. counts_as (λ z. omega (arith, credits-append (cell_of bottom) l r z)) (y.counts _ (link _ (x.counts g e)));
        says = λ ag. says_append classes T (cell_of bottom) before l r (x.says (earlier ag a b w)) (y.says (narrow ag c d));
        means = λ ag u. (x.means (earlier ag a b w) (presumes_left P l r u), y.means (narrow ag c d) (presumes_right P l r u));
      }

  -- and what is left after it
  pub ended : {own left : ℕ → Type 0} {before : List Use} {p q : Place} {l : List Event} {i j : ℕ} {s t : State} {A B : Type 0} {C : (ℕ → ℕ) → Type 0} (f n : ℕ) → f ≤ i → j ≤ n
      → Done classes T P bottom own before p l i j s A C → Moves (Off i j) s t → Finds left bottom (before ++ uses_in l) q t
      → ((c : ℕ → ℕ) → Counts own c s → Counts left c t) → (A → Agree f n T t → B) → Done classes T P bottom left before q l f n t B C
  ended {l = l} {i} {j} {s} {t} f n a b x w y z g =
      record {
        finds = y;
        counts = λ c e. z _ (x.counts c e);
        says = λ ag. x.says (earlier ag a b w);
        means = λ ag u. g (x.means (earlier ag a b w) u) ag;
      }

  -- the same part over more records, with fewer left
  pub closed : {own left : ℕ → Type 0} {before : List Use} {p : Place} {l : List Event} {i j : ℕ} {s : State} {A B : Type 0} {C : (ℕ → ℕ) → Type 0} (f n : ℕ) → f ≤ i → j ≤ n
      → ((x : ℕ) → left x → own x) → Done classes T P bottom own before p l i j s A C → (A → B) → Done classes T P bottom left before p l f n s B C
  closed f n a b w d g = ended f n a b d (by same) (fewer w d.finds) (λ c e. counts_fewer w e) (λ m ag. g m)
