-- What the visit of each part of a tree may rely on, in the state in which the visit of the tree visits it.
use Rattle.std.specs.Prelude.{ℕ, ◌+◌, ◌≤◌, ◌<◌, List, Bool, true, false, cond}
use Rattle.std.proofs.Math.Path.{ap}
use Rattle.std.proofs.Common.{arith}
use Rattle.std.proofs.Math.ListN.{length}
use Rattle.tree.specs.Tree.{Ident, Node, Tree, Trees, if, letin, define, lambda, sequence, call, set!, cons, many, size, sizes, Num, begins, ands, whens}
use Rattle.tree.proofs.Laws.Tree.{size_pos, many_sizes}
use Rattle.tree.specs.Core.{cores}
use Rattle.semantic.specs.declared.IdentifierStatus.TheVariants.{LocallyDefinedFunction}
use Rattle.pass_laws.specs.Laws.Sound.Holds.{holds-cores}
use Rattle.scope_map.specs.ScopeMap.{ScopeMap}
use Rattle.semantic.specs.Information.{NONE}
use Rattle.pass.specs.State.{State, with_context, depth}
use Rattle.pass.specs.Lambda.{open_lambda, open_let}
use Rattle.pass.specs.Visit.{Flags, not_tail, same_tail, pushed, let_body_flags, body_flags, argument_flags, is_lambda, head_flags, is_nil, child_flags, define_flags, open_define, enter_children, clear_context, visit, visit_arguments, in_begin, in_and, is_alone}
use Rattle.pass.specs.Run.{rows_most}
use Rattle.pass_laws.specs.Sound.{Holds, Opens}
use Rattle.pass_laws.specs.Stage.{AfterInitials}
use Rattle.pass_laws.specs.Visitable.{Visitable, VisitableArguments, VisitableChildren}
use Rattle.pass_laws.specs.Laws.Visits.{stays}
use Rattle.pass_laws.specs.Laws.Keeps.{visited, visited_arguments}
use Rattle.pass_laws.specs.Laws.Sound.Known.{knowing, sound_context, sound_open_lambda, sound_open_let, sound_clear}
use Rattle.pass_laws.specs.Laws.Sound.Calls.{each_before}
use Rattle.pass_laws.specs.Laws.Sound.Runs.{enter_sound}
use Rattle.pass_laws.specs.Laws.Stage.Still.{still_steps}
use Rattle.pass_laws.specs.Laws.Stage.Arguments.{entered-one, entered_few}
use Rattle.pass_laws.specs.Laws.Stage.Parts as stage
use Rattle.pass_laws.specs.Laws.Stage.Lambdas.{lambda_body_lem as in_lambda}
use Rattle.pass_laws.specs.Laws.Visitable.Live.{lambda_live, let_live, before_live, children_live}
use Rattle.pass_laws.specs.Laws.Visitable.Further.{Further, further_same, further_then, further_wide, further_context, further_clear, further_before, further_children, further_let, further_lambda}
use Rattle.pass_laws.specs.Laws.Visitable.Opens.{opens}
use Rattle.pass_laws.specs.Laws.Visitable.Visited.{ample_on, visited_sound, visited_further, visited_live, arguments_visited_sound, arguments_visited_further, arguments_visited_live}
use Rattle.pass_laws.specs.Laws.Preserved.{clear_preserves}

counter_less : (direct : Bool) (c : ℕ) → cond direct 0 c ≤ c
counter_less true c = omega arith
counter_less false c = omega arith

module _ {P : Ident → Type 0} (small : (x : Ident) → P x → x.at < rows_most) (classes : List ℕ) (i : ℕ) (f : Flags) (s : State) where
  -- Arguments and initial expressions

  pub first_argument : (t : Tree) (ts : Trees) → VisitableArguments P i (cons t ts) f s → Visitable P i t f s
  unfolding Num size Holds
  first_argument t ts w = record {
    num = w.num.0;
    inside = omega arith;
    holds = w.holds.0;
    sound = w.sound;
    ample = ample_on further_same w.ample (omega arith);
    stage = stage.first_argument classes i f s t ts w.stage;
  }

  pub next_arguments : (t : Tree) (ts : Trees) → VisitableArguments P i (cons t ts) f s → VisitableArguments P (i + size t) ts (pushed f) (visit classes t f s)
  unfolding Num size Holds
  next_arguments t ts w =
      let v = first_argument t ts w in
      record {
        num = w.num.1;
        inside = omega arith;
        holds = w.holds.1;
        sound = visited_sound small classes v;
        ample = ample_on (visited_further small classes v) w.ample (omega (arith, visited_live small classes v, size_pos t));
        stage = stage.next_arguments classes i f s t ts w.num w.stage;
      }

  -- The children of a begin

  pub first_child : (t : Tree) (ts : Trees) → VisitableChildren P i (cons t ts) f s → Visitable P i t (child_flags (is_nil ts) f) s
  unfolding Num size Holds
  first_child t ts w = record {
    num = w.num.0;
    inside = omega arith;
    holds = w.holds.0;
    sound = w.sound;
    ample = ample_on further_same w.ample (omega (arith, entered_few ts, entered-one t));
    stage = stage.first_child classes i f s t ts w.stage;
  }

  pub next_children : (t : Tree) (ts : Trees) → VisitableChildren P i (cons t ts) f s
      → VisitableChildren P (i + size t) ts f (visit classes t (child_flags (is_nil ts) f) s)
  unfolding Num size Holds
  next_children t ts w =
      let v = first_child t ts w in
      record {
        num = w.num.1;
        inside = omega arith;
        holds = w.holds.1;
        sound = visited_sound small classes v;
        ample = ample_on (visited_further small classes v) w.ample (omega (arith, visited_live small classes v, entered_few ts, entered-one t, size_pos t));
        stage = stage.next_children classes i f s t ts w.num w.stage;
      }

  pub begin_children : (n : Node) (es : Trees) → Visitable P i (sequence (begins n) es) f s → VisitableChildren P (i + 1) es (in_begin f) (enter_children classes LocallyDefinedFunction (cores es) s)
  unfolding Num size Holds
  begin_children n es w =
      let l = children_live classes es s in
      record {
        num = w.num.1;
        inside = omega arith;
        holds = w.holds;
        sound = enter_sound small classes _ (cores es) s (holds-cores P es w.holds) w.sound;
        ample = ample_on (further_children w.stage.layered.scope classes LocallyDefinedFunction (cores es)) w.ample (omega (arith, entered_few es));
        stage = stage.begin_children classes i f s n es w.num w.stage;
      }

  pub and_children : (n : Node) (es : Trees) → Visitable P i (sequence (ands n) es) f s → VisitableChildren P (i + 1) es (in_and (is_alone es) f) s
  unfolding Num size Holds
  and_children n es w = record {
    num = w.num.1;
    inside = omega arith;
    holds = w.holds;
    sound = w.sound;
    ample = ample_on further_same w.ample (omega (arith, entered_few es));
    stage = stage.and_children classes i f s n es w.stage;
  }

  -- when, unless: the test, then what follows

  module _ (b : Bool) (n : Node) (t : Tree) (ts : Trees) (w : Visitable P i (sequence (whens b n) (cons t ts)) f s) where
    pub when-test : Visitable P (i + 1) t (not_tail f) s
    unfolding Num size Holds
    when-test = record {
      num = w.num.1.0;
      inside = omega arith;
      holds = w.holds.0;
      sound = w.sound;
      ample = ample_on further_same w.ample (omega arith);
      stage = stage.when-test classes i f s b n t ts w.stage;
    }

    pub when_children : VisitableChildren P (i + 1 + size t) ts (in_begin f) (enter_children classes LocallyDefinedFunction (cores ts) (visit classes t (not_tail f) s))
    unfolding Num size Holds
    when_children =
        let u = visit classes t (not_tail f) s in
        let l = children_live classes ts u in
        let h = stays (visited classes t (not_tail f) s w.stage.layered.scope) w.stage.layered.scope in
        record {
          num = w.num.1.1;
          inside = omega arith;
          holds = w.holds.1;
          sound = enter_sound small classes _ (cores ts) u (holds-cores P ts w.holds.1) (visited_sound small classes when-test);
          ample = ample_on (further_then (visited_further small classes when-test) (further_children h classes LocallyDefinedFunction (cores ts))) w.ample
              (omega (arith, visited_live small classes when-test, entered_few ts));
          stage = stage.when_children classes i f s b n t ts w.num w.stage;
        }

  -- if

  module _ (n : Node) (a b c : Tree) (w : Visitable P i (if n a b c) f s) where
    pub if_first : Visitable P (i + 1) a (not_tail f) s
    unfolding Num size Holds
    if_first = record {
      num = w.num.1;
      inside = omega arith;
      holds = w.holds.0;
      sound = w.sound;
      ample = ample_on further_same w.ample (omega arith);
      stage = stage.if_first classes i f s n a b c w.stage;
    }

    pub if_second : Visitable P (i + 1 + size a) b (same_tail f) (visit classes a (not_tail f) s)
    unfolding Num size Holds
    if_second = record {
      num = w.num.2;
      inside = omega arith;
      holds = w.holds.1;
      sound = visited_sound small classes if_first;
      ample = ample_on (visited_further small classes if_first) w.ample (omega (arith, visited_live small classes if_first));
      stage = stage.if_second classes i f s n a b c w.num w.stage;
    }

    pub if_third : Visitable P (i + 1 + size a + size b) c (same_tail f) (visit classes b (same_tail f) (visit classes a (not_tail f) s))
    unfolding Num size Holds
    if_third = record {
      num = w.num.3;
      inside = omega arith;
      holds = w.holds.2;
      sound = visited_sound small classes if_second;
      ample = ample_on (further_then (visited_further small classes if_first) (visited_further small classes if_second)) w.ample
          (omega (arith, visited_live small classes if_first, visited_live small classes if_second));
      stage = stage.if_third classes i f s n a b c w.num w.stage;
    }

  -- let

  module _ (n : Node) (xs : List Ident) (es : Trees) (b : Tree) (w : Visitable P i (letin n xs es b) f s) where
    pub let_initials : VisitableArguments P (i + 1 + length xs) es (not_tail f) (with_context NONE s)
    unfolding Num size Holds
    let_initials = record {
      num = w.num.3;
      inside = omega arith;
      holds = w.holds.1;
      sound = sound_context small NONE w.sound;
      ample = ample_on (further_context w.stage.layered.scope NONE) w.ample (omega arith);
      stage = stage.let_initials classes i f s n xs es b w.stage;
    }

    -- once they are visited

    pub initials_deep : 1 ≤ depth (AfterInitials classes es f s)
    initials_deep = stays (visited_arguments classes es (not_tail f) (with_context NONE s) w.stage.layered.scope) w.stage.layered.scope

    pub initials_further : Further (sizes es) s (AfterInitials classes es f s)
    initials_further =
        let t = visit_arguments classes es (not_tail f) (with_context NONE s) in
        further_wide (omega arith)
        (further_then (further_then (further_context {s = s} w.stage.layered.scope NONE) (arguments_visited_further small classes let_initials))
        (further_context {s = t} initials_deep s.context))

    pub let_body_lem : Visitable P (i + 1 + length xs + sizes es) b (let_body_flags (many es) f)
        (open_let n xs f.height f.function (AfterInitials classes es f s))
    unfolding Num size Holds
    let_body_lem =
        let t = AfterInitials classes es f s in
        let l = let_live n xs f.height f.function t in
        record {
          num = w.num.4;
          inside = omega arith;
          holds = w.holds.2;
          sound = sound_open_let small n xs f.height f.function w.holds.0
              (sound_context small s.context (arguments_visited_sound small classes let_initials));
          ample = ample_on (further_then initials_further (further_let initials_deep n xs f.height f.function)) w.ample
              (omega (arith, arguments_visited_live small classes let_initials, w.num.1, many_sizes es));
          stage = stage.let_body_lem classes i f s n xs es b w.num w.stage;
        }

  -- define

  pub define-body : (n : Node) (x : Ident) (b : Tree) → Visitable P i (define n x b) f s
      → Visitable P (i + 2) b (define_flags f) (open_define classes f.direct (is_lambda b) x b s)
  unfolding Num size Holds
  define-body n x b w =
      let l = before_live classes f.direct (is_lambda b) x b s in
      record {
        num = w.num.2;
        inside = omega arith;
        holds = w.holds.1;
        sound = each_before (knowing small) tt classes f.direct (is_lambda b) x b w.holds.0 w.sound;
        ample = ample_on (further_before w.stage.layered.scope classes f.direct (is_lambda b) x b) w.ample
            (omega (arith, counter_less f.direct f.counter));
        stage = stage.define-body classes i f s n x b w.num w.stage;
      }

  -- lambda

  pub lambda_body_lem : (n : Node) (xs : List Ident) (b : Tree) → Visitable P i (lambda n xs b) f s
      → Visitable P (i + 1 + length xs) b (body_flags n (length xs) f) (open_lambda n xs s)
  unfolding Num size Holds Opens
  lambda_body_lem n xs b w =
      let l = lambda_live n xs s in
      record {
        num = w.num.2;
        inside = omega arith;
        holds = w.holds.1;
        sound = sound_open_lambda small n xs (opens classes i (lambda n xs b) w.num f s w.stage).0 w.holds.0 w.sound;
        ample = ample_on (further_lambda w.stage.layered.scope n xs) w.ample (omega arith);
        stage = in_lambda classes i f s n xs b w.num w.stage;
      }

  -- call: the arguments, then the head

  module _ (n : Node) (e : Tree) (es : Trees) (w : Visitable P i (call n e es) f s) where
    pub call_arguments : VisitableArguments P (i + 1 + size e) es (argument_flags f) s
    unfolding Num size Holds
    call_arguments = record {
      num = w.num.2;
      inside = omega arith;
      holds = w.holds.1;
      sound = w.sound;
      ample = ample_on further_same w.ample (omega arith);
      stage = stage.call_arguments classes i f s n e es w.stage;
    }

    pub call_head : Visitable P (i + 1) e (head_flags e (many es) f) (visit_arguments classes es (argument_flags f) s)
    unfolding Num size Holds
    call_head = record {
      num = w.num.1;
      inside = omega arith;
      holds = w.holds.0;
      sound = arguments_visited_sound small classes call_arguments;
      ample = ample_on (arguments_visited_further small classes call_arguments) w.ample
          (omega (arith, arguments_visited_live small classes call_arguments, many_sizes es));
      stage = stage.call_head classes i f s n e es w.num w.stage;
    }

  -- set!

  pub set_expression : (n : Node) (x : Ident) (e : Tree) → Visitable P i (set! n x e) f s → Visitable P (i + 2) e (not_tail f) (clear_context x s)
  unfolding Num size Holds
  set_expression n x e w =
      let l = ap (λ (m : ScopeMap Ident). length m.live) (clear_preserves still_steps x s).names in
      record {
        num = w.num.2;
        inside = omega arith;
        holds = w.holds.1;
        sound = sound_clear small x w.sound;
        ample = ample_on (further_clear w.stage.layered.scope x) w.ample (omega arith);
        stage = stage.set_expression classes i f s n x e w.num w.stage;
      }
