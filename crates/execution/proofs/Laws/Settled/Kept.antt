-- What a fresh run leaves in the tables, tree by tree: of each let and lambda the flags of its names at its end; of each lambda its captured list. The
-- captured lists of a tree lie one after another, in the order of the walk.
use Rattle.std.specs.Prelude.{ℕ, zero, suc, ◌+◌, ◌≤◌, ◌<◌, Bool, true, false, cond, ◌≡◌, refl, length, get_or, eqb, Some}
use mathlib.Core.List.{List, [], ◌∷◌, ◌++◌, reverse_aux}
use Rattle.std.proofs.Common.{ap, ◌∙◌, arith}
use Rattle.tree.specs.Tree as tree
use Rattle.tree.specs.Tree.{Ident, Node, Tree, Trees, ident, const, if, letin, define, lambda, sequence, call, set!, nil, cons, many}
use Rattle.tree.specs.Accepted.{All}
use Rattle.semantic.specs.Rows.{Row, Blank, Function, Let, ListEntry, no_list_entry}
use Rattle.semantic.specs.declared.FunctionInformation.{FunctionInformation}
use Rattle.semantic.specs.declared.LetInformation.{LetInformation}
use Rattle.pass.specs.State.{Facts, State, list_entry_at, list_entry_of, entry_at}
use Rattle.pass.specs.Lists.{captured_most, count_of, name_of}
use Rattle.pass.specs.Lambda.{entered}
use Rattle.pass_laws.specs.Laws.Moves.{Moves}
use Rattle.pass_laws.specs.Laws.Keeps.{Off, Agree, narrow, earlier}
use Rattle.pass_laws.specs.Laws.Idle.{Idle}
use Rattle.pass_laws.specs.Laws.Says.{uses_in, used_inside, is_set_in}
use Rattle.pass_laws.specs.Laws.Bodies.{all_rest}
use Rattle.r7rs.specs.Binding.{Binder, Place, Use, find, binders, lambda_body, let_body, parameters, let_names, raised, within, walk, walk_arguments}
use Rattle.execution.specs.Acceptance.{has_name}
use Rattle.execution.proofs.Laws.Exact.Captured.{top_of}
use Rattle.execution.proofs.Laws.Settled.Listed.{Taken, times_in}
use Rattle.execution.proofs.Laws.Settled.Tables.{put_other, arguments_of, Ended, LetEnded}

-- how many of the k entries from the row r on have the name x
unfoldable pub count_from : List ListEntry → ℕ → ℕ → ℕ → ℕ
count_from C x r zero = 0
count_from C x r (suc k) = cond (eqb (name_of (get_or C r no_list_entry)) x) (suc (count_from C x (suc r) k)) (count_from C x (suc r) k)

-- The rows T, the captured entries C and the argument entries A
module _ (T : List Row) (C A : List ListEntry) where
  -- the entries of the names xs, from the row r on, after the uses `after`
  unfoldable pub NamesKept : List Use → ℕ → List Ident → Type 0
  NamesKept after r [] = Unit {0}
  NamesKept after r (x ∷ xs) =
      ((get_or A r no_list_entry).info.captured ≡ used_inside x.at after) × ((get_or A r no_list_entry).info.mutated ≡ is_set_in x.at after) × NamesKept after (suc r) xs

  pub record LetKept (after : List Use) (n : Node) (xs : List Ident) : Type 0 where
    pub info : LetInformation
    pub is : get_or T n.at Blank ≡ Let info
    pub many : info.arguments.length ≡ length xs
    pub names : NamesKept after info.arguments.first xs

  -- its list takes the rows from lo up to hi
  pub record LambdaKept (lo hi : ℕ) (after : List Use) (n : Node) (xs : List Ident) (sc : List Binder) : Type 0 where
    pub info : FunctionInformation
    pub is : get_or T n.at Blank ≡ Function info
    pub many : info.arguments.length ≡ length xs
    pub names : NamesKept after info.arguments.first xs
    pub from : info.captured_vars.first ≡ lo
    pub to : lo + info.captured_vars.length ≡ hi
    pub few : hi ≤ captured_most
    pub taken : (r : ℕ) → lo ≤ r → r < hi → Taken after xs sc (get_or C r no_list_entry)
    pub times : (x : ℕ) (b : Binder) → has_name x xs ≡ false → find sc x ≡ Some b → used_inside b.ident.at after ≡ true
        → count_from C x lo info.captured_vars.length ≡ times_in x sc

  unfoldable mutual
    pub Kept : ℕ → ℕ → List Use → Place → Tree → Type 0
    Kept lo hi before p (ident x) = lo ≤ hi
    Kept lo hi before p (const n q) = lo ≤ hi
    Kept lo hi before p (if n a b c) =
        (k : ℕ) × (m : ℕ) × (lo ≤ k) × (k ≤ m) × (m ≤ hi) × Kept lo k before p a × Kept k m (before ++ uses_in (walk a p)) p b
        × Kept m hi ((before ++ uses_in (walk a p)) ++ uses_in (walk b p)) p c
    Kept lo hi before p (letin n xs es b) =
        let used = before ++ uses_in (walk_arguments es p) in
        let q = within (let_names xs p) (let_body (length xs) p) in
        (k : ℕ) × (lo ≤ k) × (k ≤ hi) × KeptIn lo k before p es × Kept k hi used q b × LetKept (used ++ uses_in (walk b q)) n xs
    Kept lo hi before p (define n x b) = Kept lo hi before p b
    Kept lo hi before p (lambda n xs b) =
        let q = within (parameters n xs p) (lambda_body n (length xs) p) in
        (k : ℕ) × (lo ≤ k) × (k ≤ hi) × Kept lo k before q b × LambdaKept k hi (before ++ uses_in (walk b q)) n xs p.scope
    Kept lo hi before p (sequence n es) = KeptAll lo hi before p es
    Kept lo hi before p (call n h es) =
        (k : ℕ) × (lo ≤ k) × (k ≤ hi) × KeptIn lo k before p es × Kept k hi (before ++ uses_in (walk_arguments es p)) (raised (tree.many es) p) h
    Kept lo hi before p (set! n x e) = Kept lo hi before p e

    pub KeptIn : ℕ → ℕ → List Use → Place → Trees → Type 0
    KeptIn lo hi before p nil = lo ≤ hi
    KeptIn lo hi before p (cons t ts) =
        (k : ℕ) × (lo ≤ k) × (k ≤ hi) × Kept lo k before p t × KeptIn k hi (before ++ uses_in (walk t p)) (raised 1 p) ts

    pub KeptAll : ℕ → ℕ → List Use → Place → Trees → Type 0
    KeptAll lo hi before p nil = lo ≤ hi
    KeptAll lo hi before p (cons t ts) = (k : ℕ) × (lo ≤ k) × (k ≤ hi) × Kept lo k before p t × KeptAll k hi (before ++ uses_in (walk t p)) p ts

-- Lists grow at their end alone, the argument lists by at most k entries
pub record Grown (k : ℕ) (s t : State) : Type 0 where
  pub top : top_of s ≤ top_of t
  pub captured : (r : ℕ) → r < top_of s → list_entry_at t r ≡ list_entry_at s r
  pub arguments_top : arguments_of s ≤ arguments_of t
  pub arguments : (r : ℕ) → r < arguments_of s → get_or t.facts.arguments r no_list_entry ≡ get_or s.facts.arguments r no_list_entry
  pub few : arguments_of t ≤ arguments_of s + k

pub idle_grown : (k : ℕ) (s t : State) → Idle s t → Grown k s t
idle_grown k s t i =
    record {
      top = omega (arith, ap (λ (g : Facts). g.captured_top) i);
      captured = λ r h. ap (λ (g : Facts). get_or g.captured r no_list_entry) i;
      arguments_top = omega (arith, ap (λ (g : Facts). g.arguments_top) i);
      arguments = λ r h. ap (λ (g : Facts). get_or g.arguments r no_list_entry) i;
      few = omega (arith, ap (λ (g : Facts). g.arguments_top) i);
    }

pub grown_more : {j k : ℕ} (m : ℕ) {s t u : State} → Grown j s t → Grown k t u → j + k ≤ m → Grown m s u
grown_more m p q h =
    record {
      top = omega (arith, p.top, q.top);
      captured = λ r l. q.captured r (omega (arith, p.top)) ∙ p.captured r l;
      arguments_top = omega (arith, p.arguments_top, q.arguments_top);
      arguments = λ r l. q.arguments r (omega (arith, p.arguments_top)) ∙ p.arguments r l;
      few = omega (arith, p.few, q.few);
    }

-- a let ends
pub let_grown : {n : Node} {a : List ListEntry} {s t : State} → LetEnded n a s t → Grown (length a) s t
let_grown {a = a} {s} e =
    record {
      top = omega (arith, e.top);
      captured = λ r h. ap (λ (l : List ListEntry). get_or l r no_list_entry) e.captured;
      arguments_top = omega (arith, e.arguments_top);
      arguments = λ r h. ap (λ (l : List ListEntry). get_or l r no_list_entry) e.arguments ∙ put_other s.facts.arguments a (arguments_of s) r (λ x y. omega arith);
      few = omega (arith, e.arguments_top);
    }

pub lambda_grown : {n : Node} {l a : List ListEntry} {s t : State} → Ended n l a s t → Grown (length a) s t
lambda_grown {l = l} {a} {s} e =
    record {
      top = omega (arith, e.top);
      captured = λ r h. ap (λ (c : List ListEntry). get_or c r no_list_entry) e.captured ∙ put_other s.facts.captured l (top_of s) r (λ x y. omega arith);
      arguments_top = omega (arith, e.arguments_top);
      arguments = λ r h. ap (λ (c : List ListEntry). get_or c r no_list_entry) e.arguments ∙ put_other s.facts.arguments a (arguments_of s) r (λ x y. omega arith);
      few = omega (arith, e.arguments_top);
    }

-- The tables are those of a state, as far as its lists go, and at the records from i up to j
pub record Final (T : List Row) (C A : List ListEntry) (i j : ℕ) (s : State) : Type 0 where
  pub rows : Agree i j T s
  pub captured : (r : ℕ) → r < top_of s → get_or C r no_list_entry ≡ list_entry_at s r
  pub arguments : (r : ℕ) → r < arguments_of s → get_or A r no_list_entry ≡ get_or s.facts.arguments r no_list_entry

-- a part of a fresh visit, at the records from i up to j: it makes at most k argument entries, and leaves K in the tables
pub record Leaves (T : List Row) (C A : List ListEntry) (i j k : ℕ) (s t : State) (K : Type 0) : Type 0 where
  pub grown : Grown k s t
  pub kept : Final T C A i j t → K

module _ {T : List Row} {C A : List ListEntry} where
  pub final_earlier : {i j f n k : ℕ} {s t : State} → Final T C A f n t → f ≤ i → j ≤ n → Moves (Off i j) s t → Grown k s t → Final T C A i j s
  final_earlier e a b w g =
      record {
        rows = earlier e.rows a b w;
        captured = λ r h. e.captured r (omega (arith, g.top)) ∙ g.captured r h;
        arguments = λ r h. e.arguments r (omega (arith, g.arguments_top)) ∙ g.arguments r h;
      }

  pub final_narrow : {i j f n : ℕ} {s : State} → Final T C A f n s → f ≤ i → j ≤ n → Final T C A i j s
  final_narrow e a b = record { rows = narrow e.rows a b; captured = e.captured; arguments = e.arguments }

  pub both : {i j k a b c : ℕ} {s t u : State} {K L : Type 0} (f n : ℕ) → f ≤ i → j ≤ n → f ≤ a → b ≤ n → Leaves T C A i j k s t K → Moves (Off i j) t u
      → Leaves T C A a b c t u L
      → Leaves T C A f n (k + c) s u (K × L)
  both f n h₁ h₂ h₃ h₄ p w q =
      record {
        grown = grown_more _ p.grown q.grown (omega arith);
        kept = λ e. (p.kept (final_earlier e h₁ h₂ w q.grown), q.kept (final_narrow e h₃ h₄));
      }

  pub closed : {i j k : ℕ} {s t : State} {K L : Type 0} (f n m : ℕ) → f ≤ i → j ≤ n → k ≤ m → Leaves T C A i j k s t K → (K → L) → Leaves T C A f n m s t L
  closed {s = s} {t} f n m h₁ h₂ h₃ p g =
      record { grown = grown_more m p.grown (idle_grown 0 t t refl) (omega arith); kept = λ e. g (p.kept (final_narrow e h₁ h₂)) }

  -- idle steps around it
  pub idle_before : {i j k : ℕ} {t u : State} {K : Type 0} (s : State) → Idle s t → Leaves T C A i j k t u K → Leaves T C A i j k s u K
  idle_before {t = t} s w p = record { grown = grown_more _ (idle_grown 0 s t w) p.grown (omega arith); kept = p.kept }

  pub idle_after : {i j k : ℕ} {s t : State} {K : Type 0} (u : State) → Leaves T C A i j k s t K → Idle t u → Moves (Off i j) t u → Leaves T C A i j k s u K
  idle_after {t = t} u p w m =
      let g = idle_grown 0 t u w in
      record { grown = grown_more _ p.grown g (omega arith); kept = λ e. p.kept (final_earlier e (omega arith) (omega arith) m g) }

-- The entries of names

-- what holds of each binder's name holds of the names
pub all-names : (Q : Ident → Type 0) (is_let : Bool) (base : ℕ) (q : Place) (j : ℕ) (xs : List Ident) (sc : List Binder)
    → All (λ b. Q b.ident) (reverse_aux (binders is_let base q j xs) sc) → All Q xs
unfolding binders
all-names Q is_let base q j [] sc a = tt
all-names Q is_let base q j (x ∷ xs) sc a = ((all_rest (λ b. Q b.ident) (binders is_let base q (suc j) xs) _ a).0, all-names Q is_let base q (suc j) xs _ a)

pub names_kept : (T : List Row) (C A : List ListEntry) (after : List Use) (s : State) (r : ℕ) (xs : List Ident)
    → ((j : ℕ) → j < length (entered xs s) → get_or A (r + j) no_list_entry ≡ get_or (entered xs s) j no_list_entry)
    → All (λ x. ((entry_at s x.at).captured ≡ used_inside x.at after) × ((entry_at s x.at).mutated ≡ is_set_in x.at after)) xs → NamesKept T C A after r xs
unfolding NamesKept entered
names_kept T C A after s r [] h a = tt
names_kept T C A after s r (x ∷ xs) h a =
    let here : get_or A r no_list_entry ≡ list_entry_of x (entry_at s x.at) = ap (λ (k : ℕ). get_or A k no_list_entry) (omega arith) ∙ h 0 (omega arith) in (
      ap (λ (i : ListEntry). i.info.captured) here ∙ a.0.0,
      ap (λ (i : ListEntry). i.info.mutated) here ∙ a.0.1,
      names_kept T C A after s (suc r) xs (λ j l. ap (λ (k : ℕ). get_or A k no_list_entry) (omega arith) ∙ h (suc j) (omega arith)) a.1,
    )

pub entered-length : (xs : List Ident) (s : State) → length (entered xs s) ≡ length xs
unfolding entered
entered-length [] s = refl
entered-length (x ∷ xs) s = ap suc (entered-length xs s)

-- The entries of a list in its table

pub all-at : (P : ListEntry → Type 0) (l : List ListEntry) → All P l → (j : ℕ) → j < length l → P (get_or l j no_list_entry)
all-at P [] a j h = absurd (omega arith)
all-at P (i ∷ l) a zero h = a.0
all-at P (i ∷ l) a (suc j) h = all-at P l a.1 j (omega arith)

pub count_at : (C l : List ListEntry) (x r : ℕ) → ((j : ℕ) → j < length l → get_or C (r + j) no_list_entry ≡ get_or l j no_list_entry) → count_from C x r (length l) ≡ count_of x l
unfolding count_from count_of
count_at C [] x r h = refl
count_at C (i ∷ l) x r h =
    let here : get_or C r no_list_entry ≡ i = ap (λ (k : ℕ). get_or C k no_list_entry) (omega arith) ∙ h 0 (omega arith) in
    let rest = count_at C l x (suc r) (λ j g. ap (λ (k : ℕ). get_or C k no_list_entry) (omega arith) ∙ h (suc j) (omega arith)) in
    rw (here, rest)
