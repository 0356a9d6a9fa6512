-- What the body of a define is, by the form's number in its record.
use Prim.Native.Nat.{ℕ, ◌+◌, ◌≤◌, ◌<◌}
use mathlib.Core.List.{List}
use mathlib.Core.Bool.{Bool, true, false, ◌&&◌, and-false, false≢true}
use mathlib.Core.Path.{◌≡◌, refl, ap, ap₂, sym, subst, ◌∙◌}
use native.Mathlib.Omega.{arith}
use lib.ListN.{length, get_or}
use Rattle.tree.specs.Record.{Record, nth}
use Rattle.tree.specs.Tree.{Tree, Trees, ident, const, if, letin, define, lambda, sequence, call, set!, nil, cons, many, size}
use Rattle.tree.specs.Core.{core, peel}
use Rattle.tree.proofs.Laws.Core.{by_peel}
use Rattle.tree.proofs.Laws.Parts.{own}
use Rattle.tree.specs.Stands.{Stands, StandAll}
use Rattle.tree.proofs.Laws.Stands.{root_form, ident_name, first_tree}
use Rattle.tree.proofs.Laws.Stands.Forms.{ident_of_lem, CallOf, call_of_lem, lambda_of_lem}
use Rattle.semantic.specs.Information.{NONE}
use Rattle.pass.specs.Read.{is_class, is_ident_of, first_is_ident_of, is_builtin}
use Rattle.walk.specs.Contract.{SomeTree, SomeTreeOf, Reaches, TellsIdent, TellsBuiltin, body_form, TellsForm, TellsBody}
use Rattle.walk.specs.declared.body.Body.{Body}

module _ {N : ℕ} {rs : List ℕ} {at : ℕ} where
  -- the name of an identifier is one of the N
  pub named-below : (s : SomeTreeOf N rs at) {f n : ℕ} → f ≡ (nth rs at).form → f ≡ 1 → n ≡ (nth rs at).name → n < N
  named-below s {f} {n} ef e en =
      let v = ident_of_lem s.stands (sym ef ∙ e) in
      omega (arith, en, ap (λ (r : Record). r.name) v.own.is, ident_name v.x v.name)

module _ (classes : List ℕ) (k : ℕ) (rs : List ℕ) (at : ℕ) where
  pub ident_tells : {f n : ℕ} {r : Bool} → f ≡ (nth rs at).form → f ≡ 1 → n ≡ (nth rs at).name → r ≡ is_class k (get_or classes n 0) → TellsIdent classes k rs at r
  ident_tells {f} {n} {r} ef e en er = record {
    is = λ t s.
        let v = ident_of_lem s (sym ef ∙ e) in
        let en' : n ≡ v.x.name = en ∙ ap (λ (q : Record). q.name) v.own.is in
        er ∙ ap (λ (m : ℕ). is_class k (get_or classes m 0)) en' ∙ ap (is_ident_of classes k) (sym v.is);
  }

  no_ident : (t : Tree) → ((own t).form ≡ 1 → ⊥) → is_ident_of classes k t ≡ false
  unfolding own
  no_ident (ident x) h = absurd (h refl)
  no_ident (const n q) h = refl
  no_ident (if n a b c) h = refl
  no_ident (letin n xs es b) h = refl
  no_ident (define n x b) h = refl
  no_ident (lambda n xs b) h = refl
  no_ident (sequence n es) h = refl
  no_ident (call n f es) h = refl
  no_ident (set! n x e) h = refl

  pub other_tells : {f : ℕ} {r : Bool} → f ≡ (nth rs at).form → (f ≡ 1 → ⊥) → r ≡ false → TellsIdent classes k rs at r
  other_tells ef h er = record { is = λ t s. er ∙ sym (no_ident t (λ e. h (ef ∙ root_form s ∙ e))) }

  ident_size : (t : Tree) → is_ident_of classes k t ≡ true → size t ≡ 1
  unfolding size
  ident_size (ident x) e = refl
  ident_size (const n q) e = absurd (false≢true e)
  ident_size (if n a b c) e = absurd (false≢true e)
  ident_size (letin n xs es b) e = absurd (false≢true e)
  ident_size (define n x b) e = absurd (false≢true e)
  ident_size (lambda n xs b) e = absurd (false≢true e)
  ident_size (sequence n es) e = absurd (false≢true e)
  ident_size (call n f es) e = absurd (false≢true e)
  ident_size (set! n x b) e = absurd (false≢true e)

-- A call's head, and its first argument after a head that is an identifier

pub record FirstOf (N : ℕ) (rs : List ℕ) (at : ℕ) (es : Trees) : Type 0 where
  pub e : Tree
  pub others : Trees
  pub is : es ≡ cons e others
  pub stands : Stands N rs at e

first_of : {N : ℕ} {rs : List ℕ} {at : ℕ} (es : Trees) → 0 < many es → StandAll N rs at es → FirstOf N rs at es
first_of nil h s = absurd (omega arith)
first_of (cons e es) h s = record { e = e; others = es; is = refl; stands = first_tree s }

pub head_stands : {N : ℕ} {rs : List ℕ} {at : ℕ} → (nth rs at).form ≡ 8 → SomeTreeOf N rs at → SomeTreeOf N rs (at + 1)
head_stands e s = let v = call_of_lem s.stands e in record { t = v.h; stands = v.parts.operator }

-- What is reached by stepping over ands of one child

pub reached : {N : ℕ} {rs : List ℕ} {at r : ℕ} → Reaches rs at r → SomeTreeOf N rs at → SomeTreeOf N rs r
reached {N} p s = record { t = peel s.t; stands = p.is N s.t s.stands }

pub some_tree : {N : ℕ} {rs : List ℕ} {at : ℕ} → SomeTreeOf N rs at → SomeTree rs at
some_tree {N} s = record { names = N; tree = s }

core_tells : (classes : List ℕ) (k : ℕ) (rs : List ℕ) {at r : ℕ} {q : Bool} → Reaches rs at r → TellsIdent classes k rs r q
    → (t : Tree) → Stands (length classes) rs at t → q ≡ is_ident_of classes k (core t)
core_tells classes k rs p d t s = d.is (peel t) (p.is (length classes) t s) ∙ sym (by_peel (is_ident_of classes k) (λ n. refl) t)

module _ (classes : List ℕ) (rs : List ℕ) (at : ℕ) (is_call : (nth rs at).form ≡ 8) where
  no_arguments : (es : Trees) → many es ≤ 0 → first_is_ident_of classes 4 es ≡ false
  no_arguments nil h = refl
  no_arguments (cons e es) h = absurd (omega arith)

  -- of a call with no argument
  pub alone_tells : {c : ℕ} → c ≡ (nth rs at).count → c ≤ 1 → TellsBuiltin classes rs at false
  alone_tells ec h = record {
    is = λ t s.
        let v = call_of_lem s is_call in
        let z = no_arguments v.es (omega (arith, v.parts.count)) in
        sym (ap (is_builtin classes) v.is ∙ ap (λ (b : Bool). is_ident_of classes 2 (core v.h) && b) z ∙ and-false (is_ident_of classes 2 (core v.h)));
  }

  module _ {g : ℕ} (p : Reaches rs (at + 1) g) {r : Bool} (d : TellsIdent classes 2 rs g r) where
    -- of one whose head is no such identifier
    pub head_tells : r ≡ false → TellsBuiltin classes rs at false
    head_tells e = record {
      is = λ t s.
          let v = call_of_lem s is_call in
          let z : is_ident_of classes 2 (core v.h) ≡ false = sym (core_tells classes 2 rs p d v.h v.parts.operator) ∙ e in
          sym (ap (is_builtin classes) v.is ∙ ap (λ (b : Bool). b && first_is_ident_of classes 4 v.es) z);
    }

    module _ {c : ℕ} (ec : c ≡ (nth rs at).count) (h : 1 < c) (e : r ≡ true) where
      first_argument : {t : Tree} → Stands (length classes) rs at t → (v : CallOf (length classes) rs at t) → FirstOf (length classes) rs (g + 1) v.es
      first_argument s v =
          let one = ident_size classes 2 rs g (peel v.h) (sym (d.is (peel v.h) (p.is (length classes) v.h v.parts.operator)) ∙ e) in
          let two : at + 1 + size v.h ≡ g + 1 = omega (arith, one, p.ends (length classes) v.h v.parts.operator) in
          first_of v.es (omega (arith, v.parts.count)) (subst (λ (i : ℕ). StandAll (length classes) rs i v.es) two v.parts.operands)

      pub argument_stands : SomeTreeOf (length classes) rs at → SomeTreeOf (length classes) rs (g + 1)
      argument_stands s =
          let a = first_argument s.stands (call_of_lem s.stands is_call) in
          record { t = a.e; stands = a.stands }

      pub both_tell : {k : ℕ} → Reaches rs (g + 1) k → {q : Bool} → TellsIdent classes 4 rs k q → TellsBuiltin classes rs at q
      both_tell w {q} f = record {
        is = λ t s.
            let v = call_of_lem s is_call in
            let a = first_argument s v in
            core_tells classes 4 rs w f a.e a.stands
            ∙ ap (first_is_ident_of classes 4) (sym a.is)
            ∙ ap (λ (b : Bool). b && first_is_ident_of classes 4 v.es) (sym (sym (core_tells classes 2 rs p d v.h v.parts.operator) ∙ e))
            ∙ ap (is_builtin classes) (sym v.is);
      }

-- The whole answer, by form

abbrev plain : ℕ → Bool → Body
plain a l = record { builtin = false; required = false; alias = a; lambda = l }

module _ (classes : List ℕ) (rs : List ℕ) (at : ℕ) {f : ℕ} (ef : f ≡ (nth rs at).form) where
  pub ident_body : {n : ℕ} {r : Body} → f ≡ 1 → n ≡ (nth rs at).id → r ≡ plain n false → TellsForm classes rs at r
  ident_body e en er = record {
    is = λ t s.
        let v = ident_of_lem s (sym ef ∙ e) in
        er ∙ ap (λ (n : ℕ). plain n false) (en ∙ ap (λ (q : Record). q.id) v.own.is) ∙ ap (body_form classes) (sym v.is);
  }

  pub lambda_body_lem : {r : Body} → f ≡ 6 → r ≡ plain NONE true → TellsForm classes rs at r
  lambda_body_lem e er = record { is = λ t s. let v = lambda_of_lem s (sym ef ∙ e) in er ∙ ap (body_form classes) (sym v.is) }

  pub call_body : {b q : Bool} → f ≡ 8 → TellsBuiltin classes rs at b → {h : ℕ} → Reaches rs (at + 1) h → TellsIdent classes 8 rs h q
      → TellsForm classes rs at (record { builtin = b; required = q; alias = NONE; lambda = false })
  call_body {b} {q} e tb w tq = record {
    is = λ t s.
        let v = call_of_lem s (sym ef ∙ e) in
        let eb = tb.is t s ∙ ap (is_builtin classes) v.is in
        let eq = core_tells classes 8 rs w tq v.h v.parts.operator in
        ap₂ (λ (x y : Bool). record { builtin = x; required = y; alias = NONE; lambda = false }) eb eq ∙ ap (body_form classes) (sym v.is);
  }

  other : (t : Tree) → ((own t).form ≡ 1 → ⊥) → ((own t).form ≡ 6 → ⊥) → ((own t).form ≡ 8 → ⊥) → plain NONE false ≡ body_form classes t
  unfolding own
  other (ident x) h g k = absurd (h refl)
  other (const n q) h g k = refl
  other (if n a b c) h g k = refl
  other (letin n xs es b) h g k = refl
  other (define n x b) h g k = refl
  other (lambda n xs b) h g k = absurd (g refl)
  other (sequence n es) h g k = refl
  other (call n o es) h g k = absurd (k refl)
  other (set! n x e) h g k = refl

  pub other_body : {r : Body} → (f ≡ 1 → ⊥) → (f ≡ 6 → ⊥) → (f ≡ 8 → ⊥) → r ≡ plain NONE false → TellsForm classes rs at r
  other_body h g k er = record {
    is = λ t s.
        let e = ef ∙ root_form s in
        er ∙ other t (λ z. h (e ∙ z)) (λ z. g (e ∙ z)) (λ z. k (e ∙ z));
  }

-- what a tree is, by what is reached
pub body_tells : (classes : List ℕ) (rs : List ℕ) {at r : ℕ} {q : Body} → Reaches rs at r → TellsForm classes rs r q → TellsBody classes rs at q
body_tells classes rs p d = record { is = λ t s. d.is (peel t) (p.is (length classes) t s) ∙ sym (by_peel (body_form classes) (λ n. refl) t) }
