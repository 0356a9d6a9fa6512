-- A part that is put into the pass is read back, and the other parts are kept.
use Rattle.std.specs.Prelude.{ℕ, ◌≡◌, Option}
use Rattle.std.proofs.Common.{refl, ◌∙◌}
use Rattle.scope_map.specs.declared.ScopeMap.{ScopeMap}
use Rattle.work.specs.Passes.{in_context, in_scope, in_captures, with_tops, with_notes, with_second}
use Rattle.work.specs.declared.Pass.{Pass}
use Rattle.work.specs.declared.SecondRefusal.{SecondRefusal}

-- a pass of these parts
abbrev of_parts : ℕ → ScopeMap → ScopeMap → ℕ → ℕ → Option ℕ → Option ℕ → Option SecondRefusal → Pass
of_parts context scope captures captured arguments nine ten second = record {
  context = context;
  scope = scope;
  captures = captures;
  captured_top = captured;
  arguments_top = arguments;
  nine = nine;
  ten = ten;
  second = second;
}

pub pass_back : (p : Pass) → of_parts p.context p.scope p.captures p.captured_top p.arguments_top p.nine p.ten p.second ≡ p
pass_back p = refl

-- what is put changes the pass as it changes one whose parts are spelt out
pub put_back : (g f : Pass → Pass) (p : Pass) {q : Pass} → q ≡ g p → g p ≡ f p → q ≡ f p
put_back g f p e k = e ∙ k

module _ (p : Pass) {q : Pass} where
  pub context_back : (c : ℕ) → q ≡ of_parts c p.scope p.captures p.captured_top p.arguments_top p.nine p.ten p.second → q ≡ in_context c p
  context_back c e = e

  pub scope_back : (m : ScopeMap) → q ≡ of_parts p.context m p.captures p.captured_top p.arguments_top p.nine p.ten p.second → q ≡ in_scope m p
  scope_back m e = e

  pub captures_back : (m : ScopeMap) → q ≡ of_parts p.context p.scope m p.captured_top p.arguments_top p.nine p.ten p.second → q ≡ in_captures m p
  captures_back m e = e

  pub captured_back : (n : ℕ) → q ≡ of_parts p.context p.scope p.captures n p.arguments_top p.nine p.ten p.second → q ≡ with_tops n p.arguments_top p
  captured_back n e = e

  pub arguments_back : (n : ℕ) → q ≡ of_parts p.context p.scope p.captures p.captured_top n p.nine p.ten p.second → q ≡ with_tops p.captured_top n p
  arguments_back n e = e

  pub nine_back : (o : Option ℕ) → q ≡ of_parts p.context p.scope p.captures p.captured_top p.arguments_top o p.ten p.second
      → q ≡ with_notes o p.ten p.second p
  nine_back o e = e

  pub ten_back : (o : Option ℕ) → q ≡ of_parts p.context p.scope p.captures p.captured_top p.arguments_top p.nine o p.second
      → q ≡ with_notes p.nine o p.second p
  ten_back o e = e

  pub second_back : (o : Option SecondRefusal) → q ≡ of_parts p.context p.scope p.captures p.captured_top p.arguments_top p.nine p.ten o → q ≡ with_second o p
  second_back o e = e
