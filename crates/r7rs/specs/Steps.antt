-- The steps that both machines make, whatever they do with names, procedures and calls. Document 01, "The slot machine of demand 3".
use Rattle.std.specs.Prelude.{ℕ, suc, List, Bool, true, false, cond, length, Option, None, Some}
use Rattle.tree.specs.Tree.{Ident, Tree, Trees, ident, const, if, letin, define, lambda, sequence, call, set!, nil, cons, begins, ands, whens}
use Rattle.r7rs.specs.Machine.{at, After, to_head, to_body, Moment, start, entered, read, pushed, Kont, kend, kif, kseq, kand, kwhen, kpush, khead, kdrop, kret, kset, kdef, State, Out, next, ended, stopped, Got, state, on, takes, runs}

-- a procedure: its parameters, its body, and what it keeps of where it was made
pub record Procedure (E : Type 0) : Type 0 where
  pub names : List Ident
  pub of : Tree
  pub kept : E

-- What a machine does in its own way. W: values; E: what a procedure keeps; B: what a body has; M: the rest of what the machine holds.
pub record Ops (W E B M : Type 0) : Type 0 where
  pub constant : ℕ → Bool → W  -- its id; whether it is marked #f
  pub unit : W  -- the unspecified value
  pub is_false : W → Bool
  pub made : ℕ → List Ident → Tree → B → W  -- what a lambda gives: its record, its parameters, its body
  pub procedure : W → Option (Procedure E)  -- none: the value is no procedure
  pub get : Ident → B → M → Got W  -- a name is read
  pub put : Ident → W → B → M → Got (B × M)  -- a name is set
  pub fill : Ident → W → M → M  -- a name is defined
  pub top : Tree → B  -- a top-level expression's body
  pub push : W → B → B  -- an argument or initial value
  pub bind : List Ident → ℕ → B → M → B × M  -- a let's names take the n values last pushed
  pub drop : ℕ → B → B  -- a let's n names end
  pub callee : Procedure E → ℕ → B → M → B × M  -- the body that a call starts with the n values last pushed
  pub caller : ℕ → ℕ → B → Kont B → Kont B  -- what then waits: the call's record, and how many values it takes

module _ {W E B M : Type 0} (O : Ops W E B M) where
  -- An expression is entered: a moment. A constant, a lambda, an empty begin and an and of none give their value in it; else the hand stays as it was.

  abbrev pub gives : Tree → B → Option W → Option W
  gives (ident x) b h = h
  gives (const n q) b h = Some (O.constant n.id q)
  gives (if n a t e) b h = h
  gives (letin n xs es e) b h = h
  gives (define n x e) b h = h
  gives (lambda n xs e) b h = Some (O.made n.at xs e b)
  gives (sequence (begins n) nil) b h = Some O.unit
  gives (sequence (ands n) nil) b h = Some (O.constant 0 false)
  gives (sequence (whens q n) nil) b h = Some O.unit
  gives (sequence n (cons e es)) b h = h
  gives (call n f es) b h = h
  gives (set! n x e) b h = h

  abbrev pub enter : Tree → Option W → B → Kont B → M → Out W B M
  enter e h b k m = next (state (entered e) (gives e b h) b k m)

  -- "A call ... enters ... the body of the procedure that the head gave"; "a call of a non-procedure or a wrong argument count stops both machines alike"

  abbrev pub applied : Option (Procedure E) → W → ℕ → ℕ → Kont B → B → M → Out W B M
  applied None v i n k b m = stopped
  applied (Some p) v i n k b m =
      cond (takes p.names n) (let q = O.callee p n b m in enter p.of (Some v) q.0 (O.caller i n b k) q.1) stopped

  abbrev pub apply : W → ℕ → ℕ → Kont B → B → M → Out W B M
  apply v i n k b m = applied (O.procedure v) v i n k b m

  -- A value is given to what waits, up to the next moment. "An if enters its test, then one branch, the else at false. A begin enters its children and
  -- gives the last value." "A set! ... fills what a read would find; a define ... the cell"; both give the unspecified value. Document 02, order 7:
  -- where a child of an and that is not the last is false, the value is the #f that the expansion adds; where nothing follows a test, or what
  -- follows is passed over, it is that of the empty begin. Records that the expansion adds make no moment.
  unfoldable pub give : W → Kont B → B → M → Out W B M
  give v (kend nil) b m = ended v m
  give v (kend (cons e es)) b m = enter e (Some v) (O.top e) (kend es) m
  give v (kif t e k) b m = enter (cond (O.is_false v) e t) (Some v) b k m
  give v (kseq e nil k) b m = enter e (Some v) b k m
  give v (kseq e (cons e' es) k) b m = enter e (Some v) b (kseq e' es k) m
  give v (kand e nil k) b m = cond (O.is_false v) (give (O.constant 0 true) k b m) (enter e (Some v) b k m)
  give v (kand e (cons e' es) k) b m = cond (O.is_false v) (give (O.constant 0 true) k b m) (enter e (Some v) b (kand e' es k) m)
  give v (kwhen q nil k) b m = give O.unit k b m
  give v (kwhen q (cons e nil) k) b m = cond (runs q (O.is_false v)) (enter e (Some v) b k m) (give O.unit k b m)
  give v (kwhen q (cons e (cons e' es)) k) b m = cond (runs q (O.is_false v)) (enter e (Some v) b (kseq e' es k) m) (give O.unit k b m)
  give v (kpush i w n es k) b m = next (state (pushed i w (suc n) es) (Some v) (O.push v b) k m)
  give v (khead i n k) b m = apply v i n k b m
  give v (kdrop n k) b m = give v k (O.drop n b) m
  give v (kret i b' k) b m = give v k b' m
  give v (kset x k) b m = on (O.put x v b m) (λ q. give O.unit k q.0 q.1)
  give v (kdef x k) b m = give O.unit k b (O.fill x v m)

  -- the value in hand; there always is one where it is asked for
  abbrev pub given : Option W → Kont B → B → M → Out W B M
  given None k b m = stopped
  given (Some v) k b m = give v k b m

  -- "A let pushes its initial values, moves each into a new location for its name, enters its body and drops the names."
  -- "A call pushes its arguments, enters its head." n values are pushed.

  abbrev pub after : After → ℕ → Option W → B → Kont B → M → Out W B M
  after (to_head i f) n h b k m = enter f h b (khead i n k) m
  after (to_body xs e) n h b k m = let q = O.bind xs n b m in enter e h q.0 (kdrop (length xs) k) q.1

  abbrev pub push : After → ℕ → Trees → Option W → B → Kont B → M → Out W B M
  push w n nil h b k m = after w n h b k m
  push w n (cons e es) h b k m = enter e h b (kpush (at e) w n es k) m

  -- From an expression entered to the next moment: a name is read; a value in hand is given; or the first part is entered, and the rest waits
  abbrev pub go_on : Tree → Option W → B → Kont B → M → Out W B M
  go_on (ident x) h b k m = on (O.get x b m) (λ v. next (state (read x.at) (Some v) b k m))
  go_on (const n q) h b k m = given h k b m
  go_on (if n a t e) h b k m = enter a h b (kif t e k) m
  go_on (letin n xs es e) h b k m = push (to_body xs e) 0 es h b k m
  go_on (define n x e) h b k m = enter e h b (kdef x k) m
  go_on (lambda n xs e) h b k m = given h k b m
  go_on (sequence n nil) h b k m = given h k b m
  go_on (sequence (begins n) (cons e nil)) h b k m = enter e h b k m
  go_on (sequence (begins n) (cons e (cons e' es))) h b k m = enter e h b (kseq e' es k) m
  go_on (sequence (ands n) (cons e nil)) h b k m = enter e h b k m
  go_on (sequence (ands n) (cons e (cons e' es))) h b k m = enter e h b (kand e' es k) m
  go_on (sequence (whens q n) (cons e es)) h b k m = enter e h b (kwhen q es k) m
  go_on (call n f es) h b k m = push (to_head n.at f) 0 es h b k m
  go_on (set! n x e) h b k m = enter e h b (kset x k) m

  -- "a tree of no records" gives the unspecified value
  abbrev pub move : Moment → Option W → B → Kont B → M → Out W B M
  move (start nil) h b k m = ended O.unit m
  move (start (cons e es)) h b k m = enter e None (O.top e) (kend es) m
  move (entered e) h b k m = go_on e h b k m
  move (read i) h b k m = given h k b m
  move (pushed i w n es) h b k m = push w n es h b k m

  -- one more moment
  abbrev pub step : State W B M → Out W B M
  step s = move s.moment s.hand s.body s.kont s.mem
