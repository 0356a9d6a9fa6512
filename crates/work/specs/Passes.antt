-- What is threaded beside the tables: at the start of a run, and with a part of it changed.
use Rattle.std.specs.Prelude.{ℕ, Option, None}
use Rattle.scope_map.specs.declared.ScopeMap.{ScopeMap}
use Rattle.semantic.specs.Information.{NONE}
use Rattle.work.specs.declared.Pass.{Pass}
use Rattle.work.specs.declared.SecondRefusal.{SecondRefusal}

abbrev pub pass_new : ℕ → ℕ → Pass
pass_new captured arguments = record {
  context = NONE;
  scope = record { depth = 1; length = 0 };
  captures = record { depth = 1; length = 0 };
  captured_top = captured;
  arguments_top = arguments;
  nine = None;
  ten = None;
  second = None;
}

abbrev pub in_context : ℕ → Pass → Pass
in_context c p = record {
  context = c;
  scope = p.scope;
  captures = p.captures;
  captured_top = p.captured_top;
  arguments_top = p.arguments_top;
  nine = p.nine;
  ten = p.ten;
  second = p.second;
}

abbrev pub in_scope : ScopeMap → Pass → Pass
in_scope m p = record {
  context = p.context;
  scope = m;
  captures = p.captures;
  captured_top = p.captured_top;
  arguments_top = p.arguments_top;
  nine = p.nine;
  ten = p.ten;
  second = p.second;
}

abbrev pub in_captures : ScopeMap → Pass → Pass
in_captures m p = record {
  context = p.context;
  scope = p.scope;
  captures = m;
  captured_top = p.captured_top;
  arguments_top = p.arguments_top;
  nine = p.nine;
  ten = p.ten;
  second = p.second;
}

abbrev pub with_tops : ℕ → ℕ → Pass → Pass
with_tops captured arguments p = record {
  context = p.context;
  scope = p.scope;
  captures = p.captures;
  captured_top = captured;
  arguments_top = arguments;
  nine = p.nine;
  ten = p.ten;
  second = p.second;
}

abbrev pub with_notes : Option ℕ → Option ℕ → Option SecondRefusal → Pass → Pass
with_notes nine ten second p = record {
  context = p.context;
  scope = p.scope;
  captures = p.captures;
  captured_top = p.captured_top;
  arguments_top = p.arguments_top;
  nine = nine;
  ten = ten;
  second = second;
}

abbrev pub with_second : Option SecondRefusal → Pass → Pass
with_second second p = with_notes p.nine p.ten second p
