-- `call_fact`, by what the head is.
use mathlib.Core.Path.{◌∙◌, sym}
use Rattle.forms.proofs.CallFacts.{head_tree, head-inside, call_inside, head_few, call_facts, call_fact_inside, called_by_name, called_const, called_else}
use Rattle.forms.proofs.calls.call_fact.Goals as goal

pub core_at-head-requires : goal.core_at-head-requires
core_at-head-requires c = head_tree _ _ _ _ c.requires

pub is_constant-requires : goal.is_constant-requires
is_constant-requires c = head-inside _ _ _ _ c.core_at-head.ensures c.requires

pub returns-then-is_constant : goal.returns-then-is_constant
returns-then-is_constant c = called_const _ _ _ _ c.core_at-head.ensures (sym c.is_constant.ensures ∙ c.if-is_constant.true)

pub form-requires : goal.form-requires
form-requires c = head-inside _ _ _ _ c.core_at-head.ensures c.requires

pub is_self-own-requires : goal.is_self-own-requires
is_self-own-requires c =
    (head_few _ _ _ _ c.core_at-head.ensures c.requires, call_facts _ _ _ _ c.requires)

pub span_at-span-requires : goal.span_at-span-requires
span_at-span-requires c = head-inside _ _ _ _ c.core_at-head.ensures c.requires

pub call_site-requires : goal.call_site-requires
call_site-requires c = call_fact_inside _ _ _ _ c.requires

pub returns-then-form-eq-IDENTIFIER : goal.returns-then-form-eq-IDENTIFIER
returns-then-form-eq-IDENTIFIER c =
    called_by_name _ _ _ _ c.core_at-head.ensures c.call_site.ensures (sym c.form.ensures ∙ c.if-form-eq-IDENTIFIER.true)
    c.is_self-own.ensures c.call_kind.ensures c.span_at-span.ensures

pub span_at-span-requires-2 : goal.span_at-span-requires-2
span_at-span-requires-2 c = call_inside _ _ _ _ c.requires

pub call_site-requires-2 : goal.call_site-requires-2
call_site-requires-2 c = call_fact_inside _ _ _ _ c.requires

pub returns : goal.returns
returns c =
    called_else _ _ _ _ c.core_at-head.ensures c.call_site-2.ensures (sym c.is_constant.ensures ∙ c.if-is_constant.false)
    (λ e. c.if-form-eq-IDENTIFIER.false (c.form.ensures ∙ e)) c.call_kind-2.ensures c.span_at-span-2.ensures
