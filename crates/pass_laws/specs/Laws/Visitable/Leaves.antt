-- What a form's own functions rely on, where its visit calls them.
use Rattle.std.specs.Prelude.{ℕ, ◌+◌, ◌*◌, ◌≤◌, ◌<◌, List, ◌≡◌, length, Option, None, Some}
use Rattle.std.proofs.Common.{◌∙◌, subst}
use native.Mathlib.Omega.{arith}
use Rattle.tree.specs.Tree.{Ident, Node, Tree, Trees, letin, define, lambda, sequence, call, set!, many, size, Num, Sequence}
use Rattle.tree.proofs.Laws.Tree.{size_pos, many_sizes}
use Rattle.semantic.specs.Kinds.{function_in, let_in}
use Rattle.semantic.specs.declared.FunctionInformation.{FunctionInformation}
use Rattle.semantic.specs.declared.LetInformation.{LetInformation}
use Rattle.pass.specs.State.{State, row_at, depth}
use Rattle.pass.specs.Read.{mutate}
use Rattle.pass.specs.Lambda.{open_lambda, open_let}
use Rattle.pass.specs.Visit.{Flags, not_tail, let_body_flags, body_flags, argument_flags, is_lambda, head_flags, define_flags, open_define, clear_context, visit, visit_arguments}
use Rattle.pass.specs.Run.{rows_most, list_entries_most}
use Rattle.pass_laws.specs.Sound.{Sound}
use Rattle.pass_laws.specs.Stage.{AfterInitials, end_of, EntersWithin, LeavesWithin, LetEntersWithin, CapturedWithin, AroundWithin, IsBlank, FunctionWithin, Around, Unmade, Made, OnRun, first, second}
use Rattle.pass_laws.specs.Visitable.{Ample, Visitable, CapturedFits, Reliable, LambdaBegins, LambdaEnds, LetBegins, LetEnds, NamesEnter}
use Rattle.pass_laws.specs.Laws.Visits.{stays}
use Rattle.pass_laws.specs.Laws.Keeps.{visited}
use Rattle.pass_laws.specs.Laws.Sound.Known.{sound_context, sound_mutate}
use Rattle.pass_laws.specs.Laws.Sound.Counted.{counted_grow}
use Rattle.pass_laws.specs.Laws.Stage.Captured.{visit_top_lem}
use Rattle.pass_laws.specs.Laws.Stage.Second.{visit_stored}
use Rattle.pass_laws.specs.Laws.Stage.Lambdas.{lambda_enters, lambda_leaves, let_enters, let_leaves}
use Rattle.pass_laws.specs.Laws.Visitable.Live.{before_live}
use Rattle.pass_laws.specs.Laws.Visitable.Further.{Further, further_same, further_then, further_clear, further_mutate}
use Rattle.pass_laws.specs.Laws.Visitable.Visited.{visited_sound, visited_further, visited_live, arguments_visited_sound, arguments_visited_live}
use Rattle.pass_laws.specs.Laws.Visitable.Parts.{let_initials, initials_further, let_body_lem, define-body, lambda_body_lem, call_head, set_expression}

-- j records later
reliable_on : {P : Ident → Type 0} {j n r : ℕ} {f : Flags} {s t : State} → Further j s t → Ample n r f s → j ≤ n → Sound P t → Reliable P t
reliable_on p a e h = record {
  good = record {
    rows = p.lengths.rows ∙ a.rows;
    arguments = p.lengths.arguments ∙ a.arguments;
    sound = h;
    counted = counted_grow (omega (arith, a.few)) (p.counted a.uses a.counted);
  };
  captured = p.lengths.captured ∙ a.captured;
}

pub reliable : {P : Ident → Type 0} {i : ℕ} {t : Tree} {f : Flags} {s : State} → Visitable P i t f s → Reliable P s
reliable w = reliable_on further_same w.ample (omega arith) w.sound

-- What a fact tells, if it is found

lists_found : (s : State) (o : Option FunctionInformation) → EntersWithin s o → (v : FunctionInformation) → o ≡ Some v
    → (end_of v.captured_vars ≤ list_entries_most) × (end_of v.arguments ≤ list_entries_most)
    × (length s.captures.live + v.captured_vars.length ≤ list_entries_most)
lists_found s o h v e = subst (λ (p : Option FunctionInformation). EntersWithin s p) e h

captured_found : (o : Option FunctionInformation) → CapturedWithin o → (v : FunctionInformation) → o ≡ Some v
    → end_of v.captured_vars ≤ list_entries_most
captured_found o h v e = subst CapturedWithin e h

ends_found : (s : State) (o p : Option FunctionInformation) → LeavesWithin s o → o ≡ p → LeavesWithin s p
ends_found s o p h e = subst (λ (q : Option FunctionInformation). LeavesWithin s q) e h

list_found : (o : Option LetInformation) → LetEntersWithin o → (v : LetInformation) → o ≡ Some v → end_of v.arguments ≤ list_entries_most
list_found o h v e = subst LetEntersWithin e h

around_found : (s : State) (o : Option Node) → AroundWithin s o → (m : Node) → o ≡ Some m → CapturedFits s m.at
around_found s o h m e v = captured_found (function_in (row_at s m.at)) (subst (λ (p : Option Node). AroundWithin s p) e h) v

-- the lambda around stands before the record i
around_before : {i n r : ℕ} {U M : Type 0} {o : Option Node} {s : State} → OnRun i n r U M o s → (m : Node) → o ≡ Some m → m.at < i
around_before {i} {s = s} (first p) m e = (subst (λ (q : Option Node). Around IsBlank i s q) e p.function).0
around_before {i} {s = s} (second p) m e = (subst (λ (q : Option Node). Around (FunctionWithin list_entries_most list_entries_most) i s q) e p.function).0

-- a visit counts no more captured entries than a number can hold
captured_top_lem : {P : Ident → Type 0} (classes : List ℕ) {i : ℕ} {t : Tree} {f : Flags} {s : State} → Visitable P i t f s
    → (visit classes t f s).facts.captured_top ≤ list_entries_most * list_entries_most
captured_top_lem classes {i} {t} {f} {s} w = go w.stage.run
  where
    h : 1 ≤ depth s
    h = w.stage.layered.scope

    go : OnRun i (size t) (size t) (Unmade s t) (Made s t) f.function s → (visit classes t f s).facts.captured_top ≤ list_entries_most * list_entries_most
    go (first p) = omega (arith, visit_top_lem classes i t w.num f s h p.room, p.captured)
    go (second p) = omega (arith, (visit_stored classes i t w.num f s h p.made).captured, p.captured)

module _ {P : Ident → Type 0} (small : (x : Ident) → P x → x.at < rows_most) (classes : List ℕ) where
  -- After a visit

  pub visited_reliable : {i : ℕ} {t : Tree} {f : Flags} {s : State} → Visitable P i t f s → Reliable P (visit classes t f s)
  visited_reliable w = reliable_on (visited_further small classes w) w.ample (omega arith) (visited_sound small classes w)

  module _ (i : ℕ) (f : Flags) (s : State) where
    -- begin

    pub begin_enters : (n : Sequence) (es : Trees) → Visitable P i (sequence n es) f s → NamesEnter P (many es) s
    unfolding size
    begin_enters n es w = record {
      reliable = reliable w;
      room = record { live = omega (arith, many_sizes es); layers = omega arith; capture_layers = omega arith };
    }

    -- define: before the body, and after it

    pub define_begins : (n : Node) (x : Ident) (b : Tree) → Visitable P i (define n x b) f s → NamesEnter P 1 s
    unfolding size
    define_begins n x b w = record {
      reliable = reliable w;
      room = record { live = omega (arith, size_pos b); layers = omega arith; capture_layers = omega arith };
    }

    pub define_ends : (n : Node) (x : Ident) (b : Tree) → Visitable P i (define n x b) f s
        → NamesEnter P 1 (visit classes b (define_flags f) (open_define classes f.direct (is_lambda b) x b s))
    unfolding size
    define_ends n x b w =
        let v = define-body small classes i f s n x b w in
        let p = visited_further small classes v in
        let l = before_live classes f.direct (is_lambda b) x b s in
        record {
          reliable = visited_reliable v;
          room = record {
            live = omega (arith, visited_live small classes v);
            layers = omega (arith, p.layers);
            capture_layers = omega (arith, p.capture_layers);
          };
        }

    -- lambda

    module _ (n : Node) (xs : List Ident) (b : Tree) (w : Visitable P i (lambda n xs b) f s) where
      pub lambda_begins : LambdaBegins P n.at (length xs) s
      unfolding size Num
      lambda_begins = record {
        reliable = reliable w;
        few = omega (arith, w.num.0);
        room = record { live = omega (arith, size_pos b); layers = omega arith; capture_layers = omega arith };
        lists = lists_found s (function_in (row_at s n.at)) (lambda_enters classes i f s n xs b w.num w.stage);
      }

      pub lambda_ends : LambdaEnds P n.at (visit classes b (body_flags n (length xs) f) (open_lambda n xs s))
      unfolding size Num
      lambda_ends =
          let v = lambda_body_lem small classes i f s n xs b w in
          let y = visit classes b (body_flags n (length xs) f) (open_lambda n xs s) in
          let o = function_in (row_at y n.at) in
          let h = lambda_leaves classes i f s n xs b w.num w.stage in
          record {
            reliable = visited_reliable v;
            few = omega (arith, w.num.0);
            made = λ e. (ends_found y o None h e).0;
            amended = λ u e. (ends_found y o (Some u) h e).0;
            captured = omega (arith, captured_top_lem classes v);
          }

    -- let

    module _ (n : Node) (xs : List Ident) (es : Trees) (b : Tree) (w : Visitable P i (letin n xs es b) f s) where
      pub let_begins : LetBegins P n.at (length xs) f.height f.function (AfterInitials classes es f s)
      unfolding size Num
      let_begins =
          let t = AfterInitials classes es f s in
          let v = let_initials small classes i f s n xs es b w in
          let p = initials_further small classes i f s n xs es b w in
          let h = let_enters classes i f s n xs es b w.num w.stage in
          record {
            reliable = reliable_on p w.ample (omega arith) (sound_context small s.context (arguments_visited_sound small classes v));
            few = omega (arith, w.num.0);
            room = record {
              live = omega (arith, arguments_visited_live small classes v, w.num.1, size_pos b);
              layers = omega (arith, p.layers);
              capture_layers = omega (arith, p.capture_layers);
            };
            slots = omega arith;
            list = list_found (let_in (row_at t n.at)) h.0;
            outer = λ m e. let l = around_before w.stage.run m e in (omega arith, around_found t f.function h.1 m e);
          }

      pub let_ends : LetEnds P n.at (length xs)
          (visit classes b (let_body_flags (many es) f) (open_let n xs f.height f.function (AfterInitials classes es f s)))
      unfolding size Num
      let_ends = record {
        reliable = visited_reliable (let_body_lem small classes i f s n xs es b w);
        few = omega (arith, w.num.0);
        room = let_leaves classes i f s n xs es b w.num w.stage;
      }

    -- call

    pub call_ends : (n : Node) (e : Tree) (es : Trees) → Visitable P i (call n e es) f s
        → Reliable P (visit classes e (head_flags e (many es) f) (visit_arguments classes es (argument_flags f) s))
    call_ends n e es w = visited_reliable (call_head small classes i f s n e es w)

    -- set!: before the target is mutated, and before it is read

    module _ (n : Node) (x : Ident) (e : Tree) (w : Visitable P i (set! n x e) f s) where
      pub set_mutates : Reliable P (visit classes e (not_tail f) (clear_context x s))
      set_mutates = visited_reliable (set_expression small classes i f s n x e w)

      pub set_reads : Reliable P (mutate x.name (visit classes e (not_tail f) (clear_context x s)))
      unfolding size
      set_reads =
          let v = set_expression small classes i f s n x e w in
          let h = v.stage.layered.scope in
          let g = stays (visited classes e (not_tail f) (clear_context x s) h) h in
          let p = further_then (further_clear {s = s} w.stage.layered.scope x) (visited_further small classes v) in
          reliable_on (further_then p (further_mutate g x.name)) w.ample (omega arith)
          (sound_mutate small x.name (visited_sound small classes v))
