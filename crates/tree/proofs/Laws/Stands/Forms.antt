-- Which form a tree is that stands in its place: the form's number in its record says it.
use Rattle.std.specs.Prelude.{ℕ, ◌≤◌, List, Bool, true, false, ◌≡◌, refl}
use Rattle.std.proofs.Common.{sym, subst, ◌∙◌, arith}
use Rattle.tree.specs.Record.{nth}
use Rattle.tree.specs.Tree.{Ident, Node, Tree, Trees, ident, const, if, letin, define, lambda, sequence, call, set!, Sequence, begins, ands, whens, head, named, bit, flat, Num}
use Rattle.tree.proofs.Laws.Parts.{own}
use Rattle.tree.specs.Stands.{Stands}
use Rattle.tree.proofs.Laws.Stands.{RecordAt, IdentAt, root, root_form, name_at}
use Rattle.tree.proofs.Laws.Stands.Parts.{NodeAt, IfParts, LetParts, NamedParts, LambdaParts, BeginParts, CallParts, if_parts, let_parts, define_parts, lambda_parts, begin_parts, call_parts, set_parts}

data Formed : ℕ → Tree → Type 0 where
  an_ident : (x : Ident) → Formed 1 (ident x)
  a_const : (n : Node) (q : Bool) → Formed 2 (const n q)
  an_if : (n : Node) (a b c : Tree) → Formed 3 (if n a b c)
  a_let : (n : Node) (xs : List Ident) (es : Trees) (b : Tree) → Formed 4 (letin n xs es b)
  a_define : (n : Node) (x : Ident) (b : Tree) → Formed 5 (define n x b)
  a_lambda : (n : Node) (xs : List Ident) (b : Tree) → Formed 6 (lambda n xs b)
  a_begin : (n : Node) (es : Trees) → Formed 7 (sequence (begins n) es)
  an_and : (n : Node) (es : Trees) → Formed 10 (sequence (ands n) es)
  a_when : (n : Node) (es : Trees) → Formed 11 (sequence (whens true n) es)
  an_unless : (n : Node) (es : Trees) → Formed 12 (sequence (whens false n) es)
  a_call : (n : Node) (h : Tree) (es : Trees) → Formed 8 (call n h es)
  a_set : (n : Node) (x : Ident) (e : Tree) → Formed 9 (set! n x e)

formed : (t : Tree) → Formed (own t).form t
unfolding own
formed (ident x) = an_ident x
formed (const n q) = a_const n q
formed (if n a b c) = an_if n a b c
formed (letin n xs es b) = a_let n xs es b
formed (define n x b) = a_define n x b
formed (lambda n xs b) = a_lambda n xs b
formed (sequence (begins n) es) = a_begin n es
formed (sequence (ands n) es) = an_and n es
formed (sequence (whens true n) es) = a_when n es
formed (sequence (whens false n) es) = an_unless n es
formed (call n h es) = a_call n h es
formed (set! n x e) = a_set n x e

-- there are twelve forms
range : {t : Tree} {f : ℕ} → Formed f t → (1 ≤ f) × (f ≤ 12)
range (an_ident x) = (omega arith, omega arith)
range (a_const n q) = (omega arith, omega arith)
range (an_if n a b c) = (omega arith, omega arith)
range (a_let n xs es b) = (omega arith, omega arith)
range (a_define n x b) = (omega arith, omega arith)
range (a_lambda n xs b) = (omega arith, omega arith)
range (a_begin n es) = (omega arith, omega arith)
range (an_and n es) = (omega arith, omega arith)
range (a_when n es) = (omega arith, omega arith)
range (an_unless n es) = (omega arith, omega arith)
range (a_call n h es) = (omega arith, omega arith)
range (a_set n x e) = (omega arith, omega arith)

module _ (N : ℕ) (rs : List ℕ) (i : ℕ) (t : Tree) where
  pub record IdentOf : Type 0 where
    pub x : Ident
    pub is : t ≡ ident x
    pub here : x.at ≡ i
    pub own : RecordAt N rs i (named x)
    pub name : IdentAt N rs x

  pub record ConstOf : Type 0 where
    pub n : Node
    pub q : Bool
    pub is : t ≡ const n q
    pub node : NodeAt N rs i n (head 2 n (bit q) 0)

  pub record IfOf : Type 0 where
    pub n : Node
    pub a : Tree
    pub b : Tree
    pub c : Tree
    pub is : t ≡ if n a b c
    pub parts : IfParts N rs i n a b c

  pub record LetOf : Type 0 where
    pub n : Node
    pub xs : List Ident
    pub es : Trees
    pub b : Tree
    pub is : t ≡ letin n xs es b
    pub parts : LetParts N rs i n xs es b

  pub record DefineOf : Type 0 where
    pub n : Node
    pub x : Ident
    pub b : Tree
    pub is : t ≡ define n x b
    pub parts : NamedParts N rs i 5 n x b

  pub record LambdaOf : Type 0 where
    pub n : Node
    pub xs : List Ident
    pub b : Tree
    pub is : t ≡ lambda n xs b
    pub parts : LambdaParts N rs i n xs b

  -- a sequence, by the constructor of its node
  pub record BeginOf (c : Node → Sequence) : Type 0 where
    pub n : Node
    pub es : Trees
    pub is : t ≡ sequence (c n) es
    pub parts : BeginParts N rs i (c n) es

  pub record CallOf : Type 0 where
    pub n : Node
    pub h : Tree
    pub es : Trees
    pub is : t ≡ call n h es
    pub parts : CallParts N rs i n h es

  pub record SetOf : Type 0 where
    pub n : Node
    pub x : Ident
    pub e : Tree
    pub is : t ≡ set! n x e
    pub parts : NamedParts N rs i 9 n x e

module _ {N : ℕ} {rs : List ℕ} {i : ℕ} where
  of_form : {t : Tree} {f : ℕ} → Stands N rs i t → (nth rs i).form ≡ f → Formed f t
  of_form {t} s e = subst (λ (k : ℕ). Formed k t) (sym (root_form s) ∙ e) (formed t)

  pub form_range : {t : Tree} → Stands N rs i t → (1 ≤ (nth rs i).form) × ((nth rs i).form ≤ 12)
  form_range s = range (of_form s refl)

  ident_form : {t : Tree} → Formed 1 t → Stands N rs i t → IdentOf N rs i t
  unfolding flat Num own
  ident_form (an_ident x) s = record { x = x; is = refl; here = s.num; own = root s; name = name_at s.num s.within }

  pub ident_of_lem : {t : Tree} → Stands N rs i t → (nth rs i).form ≡ 1 → IdentOf N rs i t
  ident_of_lem s e = ident_form (of_form s e) s

  const_form : {t : Tree} → Formed 2 t → Stands N rs i t → ConstOf N rs i t
  unfolding flat Num own
  const_form (a_const n q) s = record { n = n; q = q; is = refl; node = record { here = s.num; own = root s } }

  pub const_of : {t : Tree} → Stands N rs i t → (nth rs i).form ≡ 2 → ConstOf N rs i t
  const_of s e = const_form (of_form s e) s

  if_form : {t : Tree} → Formed 3 t → Stands N rs i t → IfOf N rs i t
  if_form (an_if n a b c) s = record { n = n; a = a; b = b; c = c; is = refl; parts = if_parts s }

  pub if_of : {t : Tree} → Stands N rs i t → (nth rs i).form ≡ 3 → IfOf N rs i t
  if_of s e = if_form (of_form s e) s

  let_form : {t : Tree} → Formed 4 t → Stands N rs i t → LetOf N rs i t
  let_form (a_let n xs es b) s = record { n = n; xs = xs; es = es; b = b; is = refl; parts = let_parts s }

  pub let_of_lem : {t : Tree} → Stands N rs i t → (nth rs i).form ≡ 4 → LetOf N rs i t
  let_of_lem s e = let_form (of_form s e) s

  define-form : {t : Tree} → Formed 5 t → Stands N rs i t → DefineOf N rs i t
  define-form (a_define n x b) s = record { n = n; x = x; b = b; is = refl; parts = define_parts s }

  pub define_of_lem : {t : Tree} → Stands N rs i t → (nth rs i).form ≡ 5 → DefineOf N rs i t
  define_of_lem s e = define-form (of_form s e) s

  lambda_form : {t : Tree} → Formed 6 t → Stands N rs i t → LambdaOf N rs i t
  lambda_form (a_lambda n xs b) s = record { n = n; xs = xs; b = b; is = refl; parts = lambda_parts s }

  pub lambda_of_lem : {t : Tree} → Stands N rs i t → (nth rs i).form ≡ 6 → LambdaOf N rs i t
  lambda_of_lem s e = lambda_form (of_form s e) s

  begin_form : {t : Tree} → Formed 7 t → Stands N rs i t → BeginOf N rs i t begins
  begin_form (a_begin n es) s = record { n = n; es = es; is = refl; parts = begin_parts s }

  pub begin_of : {t : Tree} → Stands N rs i t → (nth rs i).form ≡ 7 → BeginOf N rs i t begins
  begin_of s e = begin_form (of_form s e) s

  and-form : {t : Tree} → Formed 10 t → Stands N rs i t → BeginOf N rs i t ands
  and-form (an_and n es) s = record { n = n; es = es; is = refl; parts = begin_parts s }

  pub and_of_lem : {t : Tree} → Stands N rs i t → (nth rs i).form ≡ 10 → BeginOf N rs i t ands
  and_of_lem s e = and-form (of_form s e) s

  when-form : {t : Tree} → Formed 11 t → Stands N rs i t → BeginOf N rs i t (whens true)
  when-form (a_when n es) s = record { n = n; es = es; is = refl; parts = begin_parts s }

  pub when_of : {t : Tree} → Stands N rs i t → (nth rs i).form ≡ 11 → BeginOf N rs i t (whens true)
  when_of s e = when-form (of_form s e) s

  unless-form : {t : Tree} → Formed 12 t → Stands N rs i t → BeginOf N rs i t (whens false)
  unless-form (an_unless n es) s = record { n = n; es = es; is = refl; parts = begin_parts s }

  pub unless_of : {t : Tree} → Stands N rs i t → (nth rs i).form ≡ 12 → BeginOf N rs i t (whens false)
  unless_of s e = unless-form (of_form s e) s

  call_form : {t : Tree} → Formed 8 t → Stands N rs i t → CallOf N rs i t
  call_form (a_call n h es) s = record { n = n; h = h; es = es; is = refl; parts = call_parts s }

  pub call_of_lem : {t : Tree} → Stands N rs i t → (nth rs i).form ≡ 8 → CallOf N rs i t
  call_of_lem s e = call_form (of_form s e) s

  set-form : {t : Tree} → Formed 9 t → Stands N rs i t → SetOf N rs i t
  set-form (a_set n x e) s = record { n = n; x = x; e = e; is = refl; parts = set_parts s }

  pub set_of : {t : Tree} → Stands N rs i t → (nth rs i).form ≡ 9 → SetOf N rs i t
  set_of s e = set-form (of_form s e) s
