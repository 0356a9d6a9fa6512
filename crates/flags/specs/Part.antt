-- What each part of an expression is handed.
use Rattle.std.specs.Prelude.{◌+◌, ◌<◌, true, false, cond, not, ◌&&◌, Some}
use Rattle.pass.specs.Visit.{not_tail, same_tail, pushed, let_body_flags, argument_flags, in_begin, in_and, child_flags, define_flags}
use Rattle.flags.specs.Flags.{Most, Handed, HandsBody, HandsHead}
use Rattle.flags.specs.declared.Flags.{Flags as Coded}
use Rattle.flags.specs.declared.Part.{Part}
use Rattle.flags.specs.declared.Part.TheVariants.{NotTail, SameTail, LetBody, Body, Argument, Next, Head, InBegin, InAnd, Child, DefineBody}

-- no number outgrows its type
abbrev pub Room : Part → Coded → Type 0
Room NotTail g = Unit {0}
Room SameTail g = Unit {0}
Room (LetBody k) g = g.height + k < Most
Room (Body at id k) g = (g.counter + 1 < Most) × (at + 1 < Most)
Room Argument g = Unit {0}
Room Next g = g.height + 1 < Most
Room (Head lambda k) g = g.height + k < Most
Room InBegin g = Unit {0}
Room (InAnd alone) g = Unit {0}
Room (Child last) g = Unit {0}
Room DefineBody g = Unit {0}

-- as the code holds it
abbrev pub at_part : Part → Coded → Coded
at_part NotTail g = record { height = g.height; counter = g.counter; function = g.function; tail = false; escape = g.escape; direct = false }
at_part SameTail g = record { height = g.height; counter = g.counter; function = g.function; tail = g.tail; escape = g.escape; direct = false }
at_part (LetBody k) g = record { height = g.height + k; counter = g.counter; function = g.function; tail = g.tail; escape = g.escape; direct = false }
at_part (Body at id k) g = record { height = k; counter = g.counter + 1; function = Some (record { at = at; id = id }); tail = true; escape = g.escape; direct = false }
at_part Argument g = record { height = g.height; counter = g.counter; function = g.function; tail = false; escape = true; direct = false }
at_part Next g = record { height = g.height + 1; counter = g.counter; function = g.function; tail = g.tail; escape = g.escape; direct = g.direct }
at_part (Head lambda k) g = record { height = g.height + k; counter = g.counter; function = g.function; tail = false; escape = g.tail && not lambda; direct = false }
at_part InBegin g = record { height = g.height; counter = g.counter; function = g.function; tail = g.tail; escape = g.escape; direct = true }
at_part (InAnd alone) g = record { height = g.height; counter = g.counter; function = g.function; tail = g.tail; escape = g.escape; direct = alone && g.direct }
at_part (Child last) g = record { height = g.height; counter = g.counter; function = g.function; tail = g.tail && last; escape = g.escape; direct = g.direct }
at_part DefineBody g = record { height = g.height; counter = cond g.direct 0 g.counter; function = g.function; tail = false; escape = g.escape; direct = false }

-- as the pass has it
abbrev pub Hands : Part → Coded → Coded → Type 0
Hands NotTail g r = Handed g not_tail r
Hands SameTail g r = Handed g same_tail r
Hands (LetBody k) g r = Handed g (let_body_flags k) r
Hands (Body at id k) g r = HandsBody g at id k r
Hands Argument g r = Handed g argument_flags r
Hands Next g r = Handed g pushed r
Hands (Head lambda k) g r = HandsHead g lambda k r
Hands InBegin g r = Handed g in_begin r
Hands (InAnd alone) g r = Handed g (in_and alone) r
Hands (Child last) g r = Handed g (child_flags last) r
Hands DefineBody g r = Handed g define_flags r
