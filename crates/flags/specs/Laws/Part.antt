-- Each part is handed what the pass says.
use Rattle.std.specs.Prelude.{Bool, true, false, ◌&&◌, ◌≡◌, refl}
use Rattle.std.proofs.Common.{ap, arith}
use Rattle.flags.specs.Part.{at_part, Hands}
use Rattle.flags.specs.declared.Flags.{Flags as Coded}
use Rattle.flags.specs.declared.Part.{Part}
use Rattle.flags.specs.declared.Part.TheVariants.{NotTail, SameTail, LetBody, Body, Argument, Next, Head, InBegin, InAnd, Child, DefineBody}

and_swap : (a b : Bool) → a && b ≡ b && a
and_swap true true = refl
and_swap true false = refl
and_swap false true = refl
and_swap false false = refl

pub hands : (p : Part) (g : Coded) → Hands p g (at_part p g)
hands NotTail g = record {
  is = λ h a. record { tail = refl; escape = a.escape; height = a.height; counter = a.counter; function = a.function; direct = refl };
}
hands SameTail g = record {
  is = λ h a. record { tail = a.tail; escape = a.escape; height = a.height; counter = a.counter; function = a.function; direct = refl };
}
hands (LetBody k) g = record {
  is = λ h a. record { tail = a.tail; escape = a.escape; height = omega (arith, a.height); counter = a.counter; function = a.function; direct = refl };
}
hands (Body at id k) g = record {
  is = λ n h e i a. record { tail = refl; escape = a.escape; height = refl; counter = omega (arith, a.counter); function = (e, i); direct = refl };
}
hands Argument g = record {
  is = λ h a. record { tail = refl; escape = refl; height = a.height; counter = a.counter; function = a.function; direct = refl };
}
hands Next g = record {
  is = λ h a. record { tail = a.tail; escape = a.escape; height = omega (arith, a.height); counter = a.counter; function = a.function; direct = a.direct };
}
hands (Head lambda k) g = record {
  is = λ t h e a. record { tail = refl; escape = rw (← a.tail, ← e); height = omega (arith, a.height); counter = a.counter; function = a.function; direct = refl };
}
hands InBegin g = record {
  is = λ h a. record { tail = a.tail; escape = a.escape; height = a.height; counter = a.counter; function = a.function; direct = refl };
}
hands (InAnd alone) g = record {
  is = λ h a. record {
    tail = a.tail;
    escape = a.escape;
    height = a.height;
    counter = a.counter;
    function = a.function;
    direct = ap (λ (b : Bool). alone && b) a.direct;
  };
}
hands (Child last) g = record {
  is = λ h a. record {
    tail = rw (← a.tail) (and_swap g.tail last);
    escape = a.escape;
    height = a.height;
    counter = a.counter;
    function = a.function;
    direct = a.direct;
  };
}
hands DefineBody g = record {
  is = λ h a. record { tail = refl; escape = a.escape; height = a.height; counter = rw (← a.direct, ← a.counter); function = a.function; direct = refl };
}
