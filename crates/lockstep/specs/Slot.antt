-- The slot machine: frames, and names found by the recorded facts alone. Document 01, "The slot machine of demand 3", first paragraph.
use Rattle.std.specs.Prelude.{ℕ, ◌-◌, List, [], ◌∷◌, ◌++◌, Bool, true, false, cond, length, take, set, ltb, Option, None, Some, slice_get}
use Rattle.tree.specs.Tree.{Ident, Tree, Trees, nil}
use Rattle.r7rs.specs.Machine.{start, Kont, kend, kif, kseq, kpush, khead, kdrop, kret, kset, kdef, State, Out, Got, got, missing, astray, state, Cells, unbound, fill, in_cell, last_n, but_n, kand, kwhen}
use Rattle.r7rs.specs.Steps.{Procedure, Ops, step}
use Rattle.r7rs.specs.Run.{Ran, run}
use Rattle.semantic.specs.Rows.{Row}
use Rattle.lockstep.specs.Facts.{is_tail, made_at, Spot, cell, own, kept, nowhere, row_of, spot_in}

mutual
  pub data SVal : Type 0 where
    sconst : ℕ → Bool → SVal
    sunit : SVal  -- the unspecified value
    sclo : ℕ → List Ident → Tree → Frames → SVal  -- a lambda's record, its parameters, its body, and the frames that it copied

  -- lists of values, and of those: a data type does not recurse through `List`
  pub data Frame : Type 0 where
    vnil : Frame
    vcons : SVal → Frame → Frame

  pub data Frames : Type 0 where
    fnil : Frames
    fcons : Frame → Frames → Frames

abbrev pub pack_frame : List SVal → Frame
pack_frame [] = vnil
pack_frame (v ∷ F) = vcons v (pack_frame F)

abbrev pub pack : List (List SVal) → Frames
pack [] = fnil
pack (F ∷ C) = fcons (pack_frame F) (pack C)

abbrev pub unpack_frame : Frame → List SVal
unpack_frame vnil = []
unpack_frame (vcons v F) = v ∷ unpack_frame F

abbrev pub unpack : Frames → List (List SVal)
unpack fnil = []
unpack (fcons F C) = unpack_frame F ∷ unpack C

-- "A frame is a list of values." A body has its own, and those that its lambda copied, of depths 2 and up. "A top-level expression has one frame,
-- which serves depth 1 and a depth-1 let's depth 2."
pub record SBody : Type 0 where
  pub frame : List SVal
  pub outer : List (List SVal)

abbrev pub frames : List SVal → List (List SVal) → SBody
frames F C = record { frame = F; outer = C }

abbrev pub SMem : Type 0
SMem = Cells SVal

abbrev pub SKont : Type 0
SKont = Kont SBody

abbrev pub SState : Type 0
SState = State SVal SBody SMem

abbrev pub SOut : Type 0
SOut = Out SVal SBody SMem

-- A name is read, or set, at the spot that its facts give

abbrev pub in_frame : Option SVal → Got SVal
in_frame None = astray
in_frame (Some v) = got v

abbrev pub in_outer : Option (List SVal) → ℕ → Got SVal
in_outer None s = astray
in_outer (Some F) s = in_frame (slice_get F s)

abbrev pub sget : Spot → ℕ → SBody → SMem → Got SVal
sget cell x b m = in_cell (m x)
sget (own s) x b m = in_frame (slice_get b.frame s)
sget (kept f s) x b m = in_outer (slice_get b.outer f) s
sget nowhere x b m = astray

abbrev pub sput_cell : Option SVal → ℕ → SVal → SBody → SMem → Got (SBody × SMem)
sput_cell None x v b m = missing
sput_cell (Some _) x v b m = got (b, fill m x v)

abbrev pub put_frame : Bool → ℕ → SVal → SBody → SMem → Got (SBody × SMem)
put_frame true s v b m = got (frames (set b.frame s v) b.outer, m)
put_frame false s v b m = astray

abbrev pub put_outer : Option (List SVal) → ℕ → ℕ → SVal → SBody → SMem → Got (SBody × SMem)
put_outer None f s v b m = astray
put_outer (Some F) f s v b m = cond (ltb s (length F)) (got (frames b.frame (set b.outer f (set F s v)), m)) astray

abbrev pub sput : Spot → ℕ → SVal → SBody → SMem → Got (SBody × SMem)
sput cell x v b m = sput_cell (m x) x v b m
sput (own s) x v b m = put_frame (ltb s (length b.frame)) s v b m
sput (kept f s) x v b m = put_outer (slice_get b.outer f) f s v b m
sput nowhere x v b m = astray

-- "A lambda copies the frames of depths 2 up to the depth it is made at, none at depth 1."
abbrev pub copied : ℕ → SBody → Frames
copied d b = pack (take (d - 1) (b.outer ++ (b.frame ∷ [])))

-- "A frame is given up ..., before the callee starts, at every recorded tail call": nothing of its body waits any more
abbrev pub give_up : SKont → SKont
give_up (kend es) = kend es
give_up (kif t e k) = give_up k
give_up (kseq e es k) = give_up k
give_up (kand e es k) = give_up k
give_up (kwhen q es k) = give_up k
give_up (kpush i w n es k) = give_up k
give_up (khead i n k) = give_up k
give_up (kdrop n k) = give_up k
give_up (kret i b k) = kret i b k
give_up (kset x k) = give_up k
give_up (kdef x k) = give_up k

abbrev pub waits : Bool → ℕ → SBody → SKont → SKont
waits true i b k = give_up k
waits false i b k = kret i b k

abbrev pub sis_false : SVal → Bool
sis_false (sconst c q) = q
sis_false sunit = false
sis_false (sclo i xs e C) = false

abbrev pub procedure : SVal → Option (Procedure Frames)
procedure (sconst c q) = None
procedure sunit = None
procedure (sclo i xs e C) = Some (record { names = xs; of = e; kept = C })

-- the frame without its last n values
abbrev pub without : ℕ → SBody → SBody
without n b = frames (but_n n b.frame) b.outer

-- ts: the tree; T: the facts. The steps are the plain machine's, but for names, procedures and calls.
module _ (ts : Trees) (T : List Row) where
  -- "Arguments and initial values are pushed"; a let's names are the values as they lie, and "let names stay until the body ends"; "each procedure call
  -- takes its arguments off its caller's and starts another with them". "A frame is given up when its procedure returns": then what waits goes on in its own.
  abbrev pub by_slots : Ops SVal Frames SBody SMem
  by_slots = record {
    constant = sconst;
    unit = sunit;
    is_false = sis_false;
    made = λ i xs e b. sclo i xs e (copied (made_at (row_of T i)) b);
    procedure = procedure;
    get = λ x b m. sget (spot_in ts T (row_of T x.at)) x.name b m;
    put = λ x v b m. sput (spot_in ts T (row_of T x.at)) x.name v b m;
    fill = λ x v m. fill m x.name v;
    top = λ e. frames [] [];
    push = λ v b. frames (b.frame ++ (v ∷ [])) b.outer;
    bind = λ xs n b m. (b, m);
    drop = without;
    callee = λ p n b m. (frames (last_n n b.frame) (unpack p.kept), m);
    caller = λ i n b k. waits (is_tail (row_of T i)) i (without n b) k;
  }

  unfoldable pub slots : ℕ → Ran SVal SBody SMem
  slots n = run (step by_slots) (state (start ts) None (frames [] []) (kend nil) unbound) n
