-- A row of the facts changed.
use Rattle.std.specs.Prelude.{suc, Bool, true, false}
use Rattle.semantic.specs.Information.{with_usage_count}
use Rattle.semantic.specs.Rows.{Row, Blank, Variable, Function, CallSite, Let}
use Rattle.semantic.specs.declared.SemanticInformation.{SemanticInformation}

-- the fact of an identifier is changed; any other stays
abbrev pub amended : (SemanticInformation → SemanticInformation) → Row → Row
amended f Blank = Blank
amended f (Variable v) = Variable (f v)
amended f (Function v) = Function v
amended f (CallSite v) = CallSite v
amended f (Let v) = Let v

abbrev pub mark_if : Bool → (SemanticInformation → SemanticInformation) → SemanticInformation → SemanticInformation
mark_if true f i = f i
mark_if false f i = i

abbrev pub one_use_more : SemanticInformation → SemanticInformation
one_use_more i = with_usage_count (suc i.usage_count) i

-- a fact made before counts one use more; where there is none, it is i
abbrev pub used_or : SemanticInformation → Row → Row
used_or i Blank = Variable i
used_or i (Variable v) = Variable (one_use_more v)
used_or i (Function v) = Function v
used_or i (CallSite v) = CallSite v
used_or i (Let v) = Let v
