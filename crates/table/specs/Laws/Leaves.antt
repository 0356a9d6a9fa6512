-- How what is promised of one row follows: from numbers written or read, from other promises.
use Rattle.std.specs.Prelude.{ℕ, suc, ◌+◌, ◌*◌, ◌≤◌, ◌<◌, List, ◌≡◌, length, get_or, set, take, drop}
use Rattle.std.proofs.Common.{ap, sym, ◌∙◌, arith, mul-le-mul_left, length-set, set-set, get_or-set_same}
use Rattle.std.proofs.lemmas.List.Edits.{sets}
use Rattle.std.proofs.lemmas.List.{set-get_or}
use Rattle.table.specs.Layout.{layout}
use Rattle.table.specs.Laws.Layout.{length-layout, get-layout, set-layout, sets_layout, row-layout}
use Rattle.table.specs.Leaves.{Stores, Amends, Tells}

module _ {A : Type 0} (put : A → List ℕ) (none : A) {F : List ℕ} {i : ℕ} where
  -- a change that the row at hand does not feel
  pub amends_none : (f : A → A) → ((l : List A) → F ≡ layout put l → i < length l → f (get_or l i none) ≡ get_or l i none) → Amends put none f F i F
  amends_none f k = record { is = λ l e h. e ∙ ap (layout put) (sym (ap (set l i) (k l e h) ∙ set-get_or l i none)) }

  -- two changes that agree on the row at hand
  pub amends_as : {f g : A → A} {F' : List ℕ}
      → ((l : List A) → F ≡ layout put l → i < length l → f (get_or l i none) ≡ g (get_or l i none))
      → Amends put none f F i F' → Amends put none g F i F'
  amends_as k c = record { is = λ l e h. c.is l e h ∙ ap (λ (a : A). layout put (set l i a)) (k l e h) }

  -- one change after another
  pub amends_then : {f g : A → A} {F' F'' : List ℕ} → Amends put none f F i F' → Amends put none g F' i F'' → Amends put none (λ a. g (f a)) F i F''
  amends_then {f} {g} c d = record {
    is = λ l e h.
        let m = set l i (f (get_or l i none)) in
        d.is m (c.is l e h) (omega (arith, length-set l i (f (get_or l i none))))
        ∙ ap (λ (a : A). layout put (set m i (g a))) (get_or-set_same l i (f (get_or l i none)) none h)
        ∙ ap (layout put) (set-set l i (f (get_or l i none)) (g (f (get_or l i none))));
  }

  pub amends_stores : {a : A} {F' : List ℕ} → Stores put F i a F' → Amends put none (λ _. a) F i F'
  amends_stores s = record { is = s.is }

module _ {A : Type 0} (W : ℕ) (put : A → List ℕ) (long : (a : A) → length (put a) ≡ W) (none : A) (F : List ℕ) (i : ℕ) where
  -- row i lies in the table
  pub inside : (l : List A) → F ≡ layout put l → i < length l → W * i + W ≤ length F
  inside l e h =
      let k : W * suc i ≤ W * length l = mul-le-mul_left W h in
      omega (arith, ap length e ∙ length-layout W put long l)

  -- the whole row is written
  pub stores_row : (a : A) {F' : List ℕ} → F' ≡ sets F (W * i) (put a) → Stores put F i a F'
  stores_row a k = record { is = λ l e h. k ∙ ap (λ (G : List ℕ). sets G (W * i) (put a)) e ∙ sets_layout W put long l i a h }

  -- number j is written: f gives the row with that number
  pub amends_number : (f : A → A) (j x : ℕ) → j < W → ((l : List A) → F ≡ layout put l → i < length l → put (f (get_or l i none)) ≡ set (put (get_or l i none)) j x)
      → Amends put none f F i (set F (W * i + j) x)
  amends_number f j x g k = record {
    is = λ l e h. ap (λ (G : List ℕ). set G (W * i + j) x) e ∙ set-layout W put long l i j x (f (get_or l i none)) none h g (k l e h);
  }

  -- the whole row is read, or number j of it, or the first one
  pub tells_row : {r : List ℕ} → r ≡ take W (drop (W * i) F) → Tells put none put F i r
  tells_row k = record { is = λ l e h. k ∙ ap (λ (G : List ℕ). take W (drop (W * i) G)) e ∙ row-layout W put long l i none h }

  pub tells_number : (j : ℕ) → j < W → Tells put none (λ a. get_or (put a) j 0) F i (get_or F (W * i + j) 0)
  tells_number j g = record { is = λ l e h. ap (λ (G : List ℕ). get_or G (W * i + j) 0) e ∙ get-layout W put long l i j none h g }

  pub tells_first : 0 < W → Tells put none (λ a. get_or (put a) 0 0) F i (get_or F (W * i) 0)
  tells_first g = record { is = λ l e h. ap (λ (k : ℕ). get_or F k 0) (omega arith) ∙ (tells_number 0 g).is l e h }
