-- What it is for the two machines to be in step. Documents 00, demand 3, and 01, "The slot machine of demand 3", last paragraph.
use Rattle.std.specs.Prelude.{ℕ, zero, suc, List, [], ◌∷◌, ◌++◌, cond, ◌≡◌, Option, None, Some, slice_get}
use mathlib.Core.List.{Memᴰ as Member}
use Rattle.tree.specs.Tree.{Tree, Trees, ident, const, if, letin, define, lambda, sequence, call, set!, nil, cons}
use Rattle.r7rs.specs.Binding.{Means}
use Rattle.r7rs.specs.Machine.{Moment, start, entered, read, pushed, waiting, kend, kif, kseq, kpush, khead, kdrop, kret, kset, kdef, next, ended, stopped, Cells, last_n, but_n, kand, kwhen}
use Rattle.r7rs.specs.Plain.{Env, PVal, pconst, punit, pclo, Store, PMem, PBody, PKont, PState, POut}
use Rattle.r7rs.specs.Run.{Ran}
use Rattle.semantic.specs.Rows.{Row}
use Rattle.lockstep.specs.Facts.{is_tail, row_of, home_in}
use Rattle.lockstep.specs.Slot.{SVal, sconst, sunit, sclo, Frame, vnil, vcons, Frames, fnil, fcons, pack, SBody, SMem, SKont, SState, SOut}

-- the records of an expression's identifiers, read or set, those of lambdas inside it included
unfoldable mutual
  pub idents : Tree → List ℕ
  idents (ident x) = x.at ∷ []
  idents (const n q) = []
  idents (if n a b c) = idents a ++ (idents b ++ idents c)
  idents (letin n xs es b) = idents_in es ++ idents b
  idents (define n x b) = idents b
  idents (lambda n xs b) = idents b
  idents (sequence n es) = idents_in es
  idents (call n h es) = idents h ++ idents_in es
  idents (set! n x e) = x.at ∷ idents e

  pub idents_in : Trees → List ℕ
  idents_in nil = []
  idents_in (cons e es) = idents e ++ idents_in es

-- what is asked of a name's frame and slot
abbrev pub Asked : Option (ℕ × ℕ) → (ℕ → ℕ → Type 0) → Type 0
Asked None Q = ⊥
Asked (Some p) Q = Q p.0 p.1

-- ts: the tree; T: the facts
module _ (ts : Trees) (T : List Row) where
  -- Like values, where the plain machine's store is σ
  module _ (σ : Store) where
    -- "a name counts for a body where an identifier in that body means it and that body's own environment then holds it": Q is asked of the frame and
    -- slot that the identifier's fact gives, and of the value in the environment ρ. Names count by their binder, which is the record that the
    -- location was made for.
    abbrev pub EachName : Tree → Env → (ℕ → ℕ → PVal → Type 0) → Type 0
    EachName e ρ Q =
        (i b : ℕ) (p : ℕ × ℕ) (w : PVal) → Member i (idents e) → Means ts i b → Member p ρ → slice_get σ p.1 ≡ Some (b, w)
        → Asked (home_in ts T (row_of T i)) (λ f s. Q f s w)

    -- "Values are alike when equal, ... procedures when of one lambda with like values for the parameters and let names it takes from outside."
    abbrev mutual
      pub Like : SVal → PVal → Type 0
      Like (sconst c q) (pconst c' q') = (c ≡ c') × (q ≡ q')
      Like (sconst c q) punit = ⊥
      Like (sconst c q) (pclo j ys e' ρ) = ⊥
      Like sunit (pconst c' q') = ⊥
      Like sunit punit = Unit {0}
      Like sunit (pclo j ys e' ρ) = ⊥
      Like (sclo i xs e C) (pconst c' q') = ⊥
      Like (sclo i xs e C) punit = ⊥
      Like (sclo i xs e C) (pclo j ys e' ρ) = (i ≡ j) × (xs ≡ ys) × (e ≡ e') × EachName e ρ (λ f s w. LikeAt C f s w)

      -- the value in the slot s of a frame; of the frame f
      pub LikeIn : Frame → ℕ → PVal → Type 0
      LikeIn vnil s w = ⊥
      LikeIn (vcons v F) zero w = Like v w
      LikeIn (vcons v F) (suc s) w = LikeIn F s w

      pub LikeAt : Frames → ℕ → ℕ → PVal → Type 0
      LikeAt fnil f s w = ⊥
      LikeAt (fcons F C) zero s w = LikeIn F s w
      LikeAt (fcons F C) (suc f) s w = LikeAt C f s w

    pub data LikeHand : Option SVal → Option PVal → Type 0 where
      nothing : LikeHand None None
      both : {v : SVal} {w : PVal} → Like v w → LikeHand (Some v) (Some w)

    pub data LikeAll : List SVal → List PVal → Type 0 where
      all_nil : LikeAll [] []
      all_cons : {v : SVal} {w : PVal} {vs : List SVal} {ws : List PVal} → Like v w → LikeAll vs ws → LikeAll (v ∷ vs) (w ∷ ws)

    abbrev pub LikeCells : Cells SVal → Cells PVal → Type 0
    LikeCells c c' = (x : ℕ) → LikeHand (c x) (c' x)

    -- the names of a body: its frames are those of depths 2 and up, its own the last
    abbrev pub LikeBody : SBody → PBody → Type 0
    LikeBody b b' = EachName b'.of b'.env (LikeAt (pack (b.outer ++ (b.frame ∷ []))))

    -- of bodies that wait: the record of the call that each waits at, and its names
    pub data LikeBodies : List (ℕ × SBody) → List (ℕ × PBody) → Type 0 where
      no_body_lem : LikeBodies [] []
      one_more_lem : {i : ℕ} {b : SBody} {b' : PBody} {bs : List (ℕ × SBody)} {bs' : List (ℕ × PBody)} → LikeBody b b' → LikeBodies bs bs'
          → LikeBodies ((i, b) ∷ bs) ((i, b') ∷ bs')

-- "a body that ... waits and has made no recorded tail call"; T: the facts. On the slot machine all that wait are such (`waiting`).
abbrev pub untailed : List Row → List (ℕ × PBody) → List (ℕ × PBody)
untailed T [] = []
untailed T (w ∷ ws) = cond (is_tail (row_of T w.0)) (untailed T ws) (w ∷ untailed T ws)

-- "On either machine a value counts as pushed only until a let name or a parameter takes it": the pushed values of all bodies, the outermost first

abbrev pub pushed_p : PKont → List PVal
pushed_p (kend es) = []
pushed_p (kif t e k) = pushed_p k
pushed_p (kseq e es k) = pushed_p k
pushed_p (kand e es k) = pushed_p k
pushed_p (kwhen q es k) = pushed_p k
pushed_p (kpush i w n es k) = pushed_p k
pushed_p (khead i n k) = pushed_p k
pushed_p (kdrop n k) = pushed_p k
pushed_p (kret i b k) = pushed_p k ++ b.stack
pushed_p (kset x k) = pushed_p k
pushed_p (kdef x k) = pushed_p k

-- those in the frame F and in the frames that wait
abbrev pub pushed_s : SKont → List SVal → List SVal
pushed_s (kend es) F = []
pushed_s (kif t e k) F = pushed_s k F
pushed_s (kseq e es k) F = pushed_s k F
pushed_s (kand e es k) F = pushed_s k F
pushed_s (kwhen q es k) F = pushed_s k F
pushed_s (kpush i w n es k) F = pushed_s k (but_n n F) ++ last_n n F
pushed_s (khead i n k) F = pushed_s k (but_n n F) ++ last_n n F
pushed_s (kdrop n k) F = pushed_s k (but_n n F)
pushed_s (kret i b k) F = pushed_s k b.frame
pushed_s (kset x k) F = pushed_s k F
pushed_s (kdef x k) F = pushed_s k F

-- right after a push the value just pushed counts too
abbrev pub pushed_now : Moment → SKont → List SVal → List SVal
pushed_now (start es) k F = []
pushed_now (entered e) k F = pushed_s k F
pushed_now (read i) k F = pushed_s k F
pushed_now (pushed i w n es) k F = pushed_s k (but_n n F) ++ last_n n F

module _ (ts : Trees) (T : List Row) where
  -- "both are at the same record, with like values in hand, pushed and in every cell, and like values for every bound parameter and let name
  -- mentioned by a body that runs or waits and has made no recorded tail call". "The bodies that demand 3 counts match the frames in order."
  -- More is said than the same record: the moments are equal, and the callers wait at the same calls.
  pub record InStep (s : SState) (p : PState) : Type 0 where
    pub moments : s.moment ≡ p.moment
    pub hands : LikeHand ts T p.mem.store s.hand p.hand
    pub pushes : LikeAll ts T p.mem.store (pushed_now s.moment s.kont s.body.frame) (pushed_p p.kont ++ p.body.stack)
    pub cells : LikeCells ts T p.mem.store s.mem p.mem.cells
    pub running : LikeBody ts T p.mem.store s.body p.body
    pub callers : LikeBodies ts T p.mem.store (waiting s.kont) (untailed T (waiting p.kont))

  -- "or both have ended with like last values and cells, or both have stopped". Nothing else: no read or set! goes outside a frame.
  pub data Now : SOut → POut → Type 0 where
    running : {s : SState} {p : PState} → InStep s p → Now (next s) (next p)
    over : {v : SVal} {w : PVal} {c : SMem} {m : PMem} → Like ts T m.store v w → LikeCells ts T m.store c m.cells → Now (ended v c) (ended w m)
    halted : Now stopped stopped

  -- "after the same number of moments"
  pub record Lockstep (r : Ran SVal SBody SMem) (q : Ran PVal PBody PMem) : Type 0 where
    pub moments : r.made ≡ q.made
    pub now : Now r.now q.now
