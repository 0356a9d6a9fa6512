-- Where names enter and leave: the captures and the tables of lists are left alone.
use Rattle.std.specs.Prelude.{refl}
use Rattle.pass.specs.State.{State}
use Rattle.pass.specs.Lambda.{open_scope, close_scope}
use Rattle.pass_laws.specs.Laws.Stage.Still.{Apart, as_full, standing, still, apart_then, fact_still, mark_still, entry_still, still_steps}
use Rattle.pass_laws.specs.Laws.Preserved.{Preserves}

pub apart_steps : Preserves (Unit {0}) (Unit {0}) Apart
apart_steps = record {
  same = λ s. still.apart;
  join = λ p q. apart_then p q;
  mark = λ f i s. (mark_still f i s).apart;
  fact = λ i v s. (fact_still i v s).apart;
  site = λ i v s. (still_steps.site i v s).apart;
  entry = λ i e s. (entry_still i e s).apart;
  context = λ c s. (still_steps.context c s).apart;
  used = λ o i v s. (still_steps.used tt i v s).apart;
  capture = λ o x s. (still_steps.capture tt x s).apart;
  second = λ o n i s. (still_steps.second tt n i s).apart;
  names = λ o m s. standing (as_full refl refl refl refl) refl;
  nine = λ o i s. standing (as_full refl refl refl refl) refl;
}

pub open_scope_apart : (s : State) → Apart s (open_scope s)
unfolding open_scope
open_scope_apart s = apart_steps.names tt _ s

pub close_scope_apart : (s : State) → Apart s (close_scope s)
unfolding close_scope
close_scope_apart s = apart_steps.names tt _ s
