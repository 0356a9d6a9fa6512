-- `uses_name`: the names that a tree's records use. The names that a record binds stand right after it, and are passed by.
use Prim.Native.Nat.{ℕ, zero, suc, ◌+◌, ◌-◌, ◌≤◌, ◌<◌}
use mathlib.Core.List.{List, [], ◌∷◌, ◌++◌, map, append_assoc, append-nil}
use mathlib.Core.Bool.{Bool, true, false, ◌||◌, or-false, or_assoc}
use mathlib.Core.Path.{◌≡◌, refl, ap, sym, subst, ◌∙◌}
use native.Mathlib.Omega.{arith}
use lib.ListN.{length}
use lib.Dec.{eqb}
use Rattle.tree.specs.Record.{Record, nth}
use Rattle.tree.specs.Form.{form_of, names_of}
use Rattle.tree.specs.Tree.{Ident, Tree, Trees, ident, const, if, letin, define, lambda, sequence, call, set!, nil, cons, named, flat, flats, begins, ands, whens}
use Rattle.tree.specs.Check.{member}
use Rattle.pass.specs.Lambda.{names_used, names_used_in}
use Rattle.walk.specs.Bound.{is_named, bound_by}
use Rattle.walk.specs.Contract.{SomeBody, UsesName}
use Rattle.walk.proofs.Slice.{slice_tree}
use Rattle.walk.proofs.Search as search

member-append : (x : ℕ) (l m : List ℕ) → member x (l ++ m) ≡ member x l || member x m
member-append x [] m = refl
member-append x (y ∷ l) m = ap (λ (b : Bool). eqb x y || b) (member-append x l m) ∙ sym (or_assoc (eqb x y) (member x l) (member x m))

module _ (x : ℕ) where
  abbrev test : ℕ → Record → Bool
  test zero r = is_named x r
  test (suc d) r = false

  -- the names that are due
  abbrev step : ℕ → Record → ℕ
  step zero r = bound_by r
  step (suc d) r = d

  abbrev uses : ℕ → List Record → Bool
  uses d l = search.scan test step d l

  uses-names : (xs : List Ident) (l : List Record) → uses (length xs) (map named xs ++ l) ≡ uses 0 l
  uses-names [] l = refl
  uses-names (y ∷ xs) l = uses-names xs l

  -- what is used by the one and by the rest
  both : (l m : List ℕ) (n : Bool) {p q : Bool} → p ≡ member x l || q → q ≡ member x m || n → p ≡ member x (l ++ m) || n
  both l m n e g =
      e ∙ ap (λ (b : Bool). member x l || b) g ∙ sym (or_assoc (member x l) (member x m) n) ∙ ap (λ (b : Bool). b || n) (sym (member-append x l m))

  mutual
    unfolding flat names_used names_of form_of

    uses_flat : (t : Tree) (l : List Record) → uses 0 (flat t ++ l) ≡ member x (names_used t) || uses 0 l
    uses_flat (ident y) l = ap (λ (b : Bool). b || uses 0 l) (sym (or-false (eqb x y.name)))
    uses_flat (const n q) l = refl
    uses_flat (if n a b c) l =
        ap (uses 0) (append_assoc (flat a) (flat b ++ flat c) l ∙ ap (λ (m : List Record). flat a ++ m) (append_assoc (flat b) (flat c) l))
        ∙ both (names_used a) (names_used b ++ names_used c) (uses 0 l) (uses_flat a (flat b ++ (flat c ++ l)))
        (both (names_used b) (names_used c) (uses 0 l) (uses_flat b (flat c ++ l)) (uses_flat c l))
    uses_flat (letin n xs es b) l =
        ap (uses (length xs)) (append_assoc (map named xs) (flats es ++ flat b) l)
        ∙ uses-names xs ((flats es ++ flat b) ++ l)
        ∙ ap (uses 0) (append_assoc (flats es) (flat b) l)
        ∙ both (names_used_in es) (names_used b) (uses 0 l) (uses_flats es (flat b ++ l)) (uses_flat b l)
    uses_flat (define n y b) l = uses_flat b l
    uses_flat (lambda n xs b) l =
        ap (uses (length xs)) (append_assoc (map named xs) (flat b) l) ∙ uses-names xs (flat b ++ l) ∙ uses_flat b l
    uses_flat (sequence (begins n) es) l = uses_flats es l
    uses_flat (sequence (ands n) es) l = uses_flats es l
    uses_flat (sequence (whens true n) es) l = uses_flats es l
    uses_flat (sequence (whens false n) es) l = uses_flats es l
    uses_flat (call n h es) l =
        ap (uses 0) (append_assoc (flat h) (flats es) l) ∙ both (names_used h) (names_used_in es) (uses 0 l) (uses_flat h (flats es ++ l)) (uses_flats es l)
    uses_flat (set! n y e) l =
        ap (λ (b : Bool). eqb x y.name || b) (uses_flat e l) ∙ sym (or_assoc (eqb x y.name) (member x (names_used e)) (uses 0 l))

    uses_flats : (ts : Trees) (l : List Record) → uses 0 (flats ts ++ l) ≡ member x (names_used_in ts) || uses 0 l
    uses_flats nil l = refl
    uses_flats (cons t ts) l =
        ap (uses 0) (append_assoc (flat t) (flats ts) l) ∙ both (names_used t) (names_used_in ts) (uses 0 l) (uses_flat t (flats ts ++ l)) (uses_flats ts l)

  module _ (rs : List ℕ) (first stop : ℕ) where
    -- the loop has come to record i, with d names due
    abbrev pub Passed : ℕ → ℕ → Type 0
    Passed d i = search.Upto test step rs first stop d i

    pub start : SomeBody rs first stop → Passed 0 first
    start = search.start test step rs first stop

    answers : {r : Bool} → r ≡ search.whole test step rs first stop → UsesName rs first stop x r
    answers e = record {
      is = λ N t s k.
          e
          ∙ ap (uses 0) (slice_tree s k ∙ sym (append-nil (flat t)))
          ∙ uses_flat t []
          ∙ or-false (member x (names_used t));
    }

    module _ {d i : ℕ} (a : Passed d i) (h : i < stop) where
      -- no name is due
      module _ {b : Bool} (z : d ≡ 0) (eb : b ≡ is_named x (nth rs i)) where
        here : Passed 0 i
        here = subst (λ (k : ℕ). Passed k i) z a

        pub found : b ≡ true → UsesName rs first stop x true
        found e = answers (search.hit test step here (omega arith) (sym eb ∙ e))

        pub next : b ≡ false → {k : ℕ} → k ≡ bound_by (nth rs i) → Passed k (i + 1)
        next e ek = search.next test step here (omega arith) (sym eb ∙ e) ek refl (omega arith)

      -- one is
      pub pass : 0 < d → {k : ℕ} → k ≡ d - 1 → Passed k (i + 1)
      pass g {k} e =
          let z : d ≡ suc k = omega arith in
          search.next test step (subst (λ (j : ℕ). Passed j i) z a) (omega arith) refl refl refl (omega arith)

    pub end : {d i : ℕ} → Passed d i → stop ≤ i → UsesName rs first stop x false
    end a h = answers (search.end test step a (omega arith))
