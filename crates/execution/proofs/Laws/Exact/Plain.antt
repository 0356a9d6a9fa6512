-- The steps that count no captured entry.
use Rattle.std.specs.Prelude.{ℕ, List, Bool, ◌≡◌, refl, Option, None, Some}
use Rattle.std.proofs.lemmas.Option.{none-some}
use Rattle.std.proofs.Common.{ap, ◌∙◌, sym}
use Rattle.tree.specs.Tree.{Ident, Node}
use Rattle.semantic.specs.Rows.{Row, Blank, ListEntry}
use Rattle.semantic.specs.declared.FunctionInformation.{FunctionInformation}
use Rattle.pass.specs.State.{State, insert, amend, put_entry, row_at}
use Rattle.pass.specs.Lists.{store_arguments}
use Rattle.pass.specs.Lambda.{function_in, open_captures, open_scope, enter_parameters, open_lambda, close_let}
use Rattle.pass_laws.specs.Laws.Preserved.{Preserves, close_let_preserves, names_preserves}

-- neither the captured entries nor refusal 10 change
pub record Plain (s t : State) : Type 0 where
  pub top : t.facts.captured_top ≡ s.facts.captured_top
  pub ten : t.noted.ten ≡ s.noted.ten

pub plain : {s : State} → Plain s s
plain = record { top = refl; ten = refl }

infixl 40 ◌then◌
pub ◌then◌ : {s t u : State} → Plain s t → Plain t u → Plain s u
p then q = record { top = q.top ∙ p.top; ten = q.ten ∙ p.ten }

pub insert-plain : (i : ℕ) (r : Row) (s : State) → Plain s (insert i r s)
unfolding insert
insert-plain i r s = record { top = refl; ten = refl }

pub plain_steps : Preserves (Unit {0}) (Unit {0}) Plain
unfolding amend put_entry
plain_steps = record {
  same = λ s. plain;
  join = λ p q. p then q;
  mark = λ f i s. insert-plain i _ s;
  fact = λ i v s. insert-plain i _ s;
  site = λ i v s. insert-plain i _ s;
  entry = λ i e s. record { top = refl; ten = refl };
  context = λ c s. record { top = refl; ten = refl };
  used = λ o i v s. insert-plain i _ s;
  capture = λ o x s. record { top = refl; ten = refl };
  second = λ o n i s. record { top = refl; ten = refl };
  names = λ o m s. record { top = refl; ten = refl };
  nine = λ o i s. record { top = refl; ten = refl };
}

pub arguments_plain : (l : List ListEntry) (s : State) → Plain s (store_arguments l s)
unfolding store_arguments
arguments_plain l s = record { top = refl; ten = refl }

pub close_let_plain : (b : Bool) (n : Node) (xs : List Ident) (height : ℕ) (function : Option Node) (s : State) → Plain s (close_let b n xs height function s)
close_let_plain = close_let_preserves plain_steps arguments_plain (λ i v s. insert-plain i _ s)

-- a fresh lambda
fresh-plain : (o : Option FunctionInformation) (xs : List Ident) (s : State) → o ≡ None → Plain s (enter_parameters o xs (open_scope (open_captures o s)))
unfolding enter_parameters open_scope open_captures
fresh-plain None xs s e = let p = names_preserves plain_steps _ _ _ _ xs 0 0 (open_scope (open_captures None s)) in record { top = p.top; ten = p.ten }
fresh-plain (Some v) xs s e = absurd (none-some v (sym e))

pub open_lambda_plain : (n : Node) (xs : List Ident) (s : State) → row_at s n.at ≡ Blank → Plain s (open_lambda n xs s)
unfolding open_lambda
open_lambda_plain n xs s e = fresh-plain (function_in (row_at s n.at)) xs s (ap function_in e)
