-- How a run of a tree stands to a run of its expansion. What waits is related and not mapped: what waits for an and, a when or an unless keeps no node.
use Rattle.std.specs.Prelude.{ℕ, zero, suc, Bool, true, cond, Option, Some}
use Rattle.tree.specs.Tree.{Node, Ident, Tree, Trees, const, sequence, nil, cons, begins}
use Rattle.tree.specs.Expand.{added, expand, expands, expand_and}
use Rattle.r7rs.specs.Machine.{After, to_head, to_body, start, entered, read, pushed, kend, kif, kseq, kand, kwhen, kpush, khead, kdrop, kret, kset, kdef, next, ended, stopped, outside, state}
use Rattle.r7rs.specs.Plain.{PVal, PMem, PBody, PKont, PState, POut, plainly}
use Rattle.r7rs.specs.Steps.{gives, step}
use Rattle.r7rs.specs.Alike.{expand_value}
use Rattle.r7rs.proofs.Laws.Alike.Values.{expand_mem, expand_body}

abbrev pub expand_after : After → After
expand_after (to_head i f) = to_head i (expand f)
expand_after (to_body xs e) = to_body xs (expand e)

-- the branches of the if that a when (true) or an unless comes to: es are what follows the test, expanded

abbrev pub follow : Node → Trees → Tree
follow n es = sequence (begins (added n)) es

abbrev pub then : Bool → Node → Trees → Tree
then q n es = cond q (follow n es) (follow n nil)

abbrev pub else : Bool → Node → Trees → Tree
else q n es = cond q (follow n nil) (follow n es)

-- What waits: for an and the if that its children left come to, for a when or an unless its if. The record whose value is to be pushed may be
-- another: of (and e) it is the and's, of its expansion e's.
pub data Waits : PKont → PKont → Type 0 where
  w_end : (es : Trees) → Waits (kend es) (kend (expands es))
  w_if : (t e : Tree) {k k' : PKont} → Waits k k' → Waits (kif t e k) (kif (expand t) (expand e) k')
  w_seq : (e : Tree) (es : Trees) {k k' : PKont} → Waits k k' → Waits (kseq e es k) (kseq (expand e) (expands es) k')
  w_and : (n : Node) (e : Tree) (es : Trees) {k k' : PKont} → Waits k k' → Waits (kand e es k) (kif (expand_and (cons e es) n) (const (added n) true) k')
  w_when : (q : Bool) (n : Node) (es : Trees) {k k' : PKont} → Waits k k' → Waits (kwhen q es k) (kif (then q n (expands es)) (else q n (expands es)) k')
  w_push : (i i' : ℕ) (w : After) (n : ℕ) (es : Trees) {k k' : PKont} → Waits k k'
      → Waits (kpush i w n es k) (kpush i' (expand_after w) n (expands es) k')
  w_head : (i n : ℕ) {k k' : PKont} → Waits k k' → Waits (khead i n k) (khead i n k')
  w_drop : (n : ℕ) {k k' : PKont} → Waits k k' → Waits (kdrop n k) (kdrop n k')
  w_ret : (i : ℕ) (b : PBody) {k k' : PKont} → Waits k k' → Waits (kret i b k) (kret i (expand_body b) k')
  w_set : (x : Ident) {k k' : PKont} → Waits k k' → Waits (kset x k) (kset x k')
  w_def : (x : Ident) {k k' : PKont} → Waits k k' → Waits (kdef x k) (kdef x k')

-- Where the runs stand. Where an expression is entered or a value was pushed, what was in hand before need not be alike: the expression gives a value
-- of its own, or the hand is not looked at before another value is given.
pub data Stand : PState → PState → Type 0 where
  at-start : (ts : Trees) {h h' : Option PVal} {b b' : PBody} {k k' : PKont} (m : PMem)
      → Stand (state (start ts) h b k m) (state (start (expands ts)) h' b' k' (expand_mem m))
  at-entered : (e : Tree) (h h' : Option PVal) (b : PBody) {k k' : PKont} (m : PMem) → Waits k k'
      → Stand (state (entered e) (gives plainly e b h) b k m)
      (state (entered (expand e)) (gives plainly (expand e) (expand_body b) h') (expand_body b) k' (expand_mem m))
  at_read : (i : ℕ) (v : PVal) (b : PBody) {k k' : PKont} (m : PMem) → Waits k k'
      → Stand (state (read i) (Some v) b k m) (state (read i) (Some (expand_value v)) (expand_body b) k' (expand_mem m))
  at_pushed : (i i' : ℕ) (w : After) (n : ℕ) (es : Trees) (h h' : Option PVal) (b : PBody) {k k' : PKont} (m : PMem) → Waits k k'
      → Stand (state (pushed i w n es) h b k m) (state (pushed i' (expand_after w) n (expands es)) h' (expand_body b) k' (expand_mem m))

-- what the runs come to
pub data Same : POut → POut → Type 0 where
  goes : {s s' : PState} → Stand s s' → Same (next s) (next s')
  over : {v : PVal} {m : PMem} → Same (ended v m) (ended (expand_value v) (expand_mem m))
  stops : Same stopped stopped
  strays : Same outside outside

-- n more tries

abbrev pub again : POut → POut
again (next s) = step plainly s
again (ended v m) = ended v m
again stopped = stopped
again outside = outside

abbrev pub tries : ℕ → POut → POut
tries zero o = o
tries (suc n) o = tries n (again o)

-- the expansion's run comes to the same by some more tries
abbrev pub Leads : POut → POut → Type 0
Leads o o' = (j : ℕ) × Same o (tries j o')
