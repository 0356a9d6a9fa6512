-- Trees, facts and states with every position 0. The modules below show of each function of the pass that it gives the same, but for positions,
-- whatever the positions are.
use Rattle.std.specs.Prelude.{map, ◌≡◌, option_map}
use Rattle.tree.specs.Tree.{Node, Ident, Tree, Trees, ident, const, if, letin, define, lambda, sequence, call, set!, nil, cons, Sequence, begins, ands, whens}
use Rattle.scope_map.specs.Map.{map_values}
use Rattle.semantic.specs.Rows.{Row, Blank, Variable, Function, CallSite, Let, ListEntry}
use Rattle.semantic.specs.declared.Span.{Span}
use Rattle.semantic.specs.declared.SemanticInformation.{SemanticInformation}
use Rattle.pass.specs.State.{Entry, Facts, Capture, State}

-- Trees

abbrev pub bare_node : Node → Node
bare_node n = record { at = n.at; id = n.id; from = 0; to = 0 }

abbrev pub bare_ident : Ident → Ident
bare_ident x = record { at = x.at; id = x.id; name = x.name; from = 0; to = 0 }

abbrev pub bare_sequence : Sequence → Sequence
bare_sequence (begins n) = begins (bare_node n)
bare_sequence (ands n) = ands (bare_node n)
bare_sequence (whens b n) = whens b (bare_node n)

unfoldable mutual
  pub bare : Tree → Tree
  bare (ident x) = ident (bare_ident x)
  bare (const n q) = const (bare_node n) q
  bare (if n a b c) = if (bare_node n) (bare a) (bare b) (bare c)
  bare (letin n xs es b) = letin (bare_node n) (map bare_ident xs) (bares es) (bare b)
  bare (define n x b) = define (bare_node n) (bare_ident x) (bare b)
  bare (lambda n xs b) = lambda (bare_node n) (map bare_ident xs) (bare b)
  bare (sequence n es) = sequence (bare_sequence n) (bares es)
  bare (call n h es) = call (bare_node n) (bare h) (bares es)
  bare (set! n x e) = set! (bare_node n) (bare_ident x) (bare e)

  pub bares : Trees → Trees
  bares nil = nil
  bares (cons t ts) = cons (bare t) (bares ts)

-- Facts

abbrev pub nowhere : Span
nowhere = record { start = 0; end = 0 }

abbrev pub bare_fact : SemanticInformation → SemanticInformation
bare_fact v = record {
  kind = v.kind;
  set_bang = v.set_bang;
  depth = v.depth;
  shadows = v.shadows;
  usage_count = v.usage_count;
  span = nowhere;
  refers_to = v.refers_to;
  aliases_to = v.aliases_to;
  builtin = v.builtin;
  last_usage = v.last_usage;
  stack_offset = v.stack_offset;
  escapes = v.escapes;
  capture_index = v.capture_index;
  read_capture_offset = v.read_capture_offset;
  captured_from_enclosing = v.captured_from_enclosing;
  heap_offset = v.heap_offset;
  read_heap_offset = v.read_heap_offset;
  is_shadowed = v.is_shadowed;
  is_required_identifier = v.is_required_identifier;
}

abbrev pub bare_row : Row → Row
bare_row Blank = Blank
bare_row (Variable v) = Variable (bare_fact v)
bare_row (Function v) = Function v
bare_row (CallSite v) = CallSite (record { kind = v.kind; span = nowhere })
bare_row (Let v) = Let v

abbrev pub bare_list_entry : ListEntry → ListEntry
bare_list_entry i = record { binder = bare_ident i.binder; info = i.info }

unfoldable pub bare_facts : Facts → Facts
bare_facts f = record {
  rows = map bare_row f.rows;
  captured = map bare_list_entry f.captured;
  captured_top = f.captured_top;
  arguments = map bare_list_entry f.arguments;
  arguments_top = f.arguments_top;
}

-- States

abbrev pub bare_entry : Entry → Entry
bare_entry e = record {
  captured = e.captured;
  mutated = e.mutated;
  usage_count = e.usage_count;
  last_used = option_map bare_ident e.last_used;
  stack_offset = e.stack_offset;
  heap_offset = e.heap_offset;
  depth = e.depth;
}

abbrev pub bare_capture : Capture → Capture
bare_capture c = record { binder = bare_ident c.binder; row = c.row; usage_count = c.usage_count; from_enclosing = c.from_enclosing }

unfoldable pub bare_state : State → State
bare_state s = record {
  facts = bare_facts s.facts;
  scope = record { names = map_values bare_ident s.scope.names; entries = map bare_entry s.scope.entries };
  captures = map_values bare_capture s.captures;
  context = s.context;
  noted = s.noted;
}

-- f does to a state what g does to the state with every position 0
infix 20 ◌↝◌
abbrev pub ◌↝◌ : (State → State) → (State → State) → Type 0
f ↝ g = (s : State) → bare_state (f s) ≡ g (bare_state s)
