-- The plain machine run: the last value and the number of moments of some scripts.
use Rattle.std.specs.Prelude.{ℕ, suc, [], ◌∷◌, true, false, ◌≡◌, refl}
use Rattle.tree.specs.Tree.{Ident, Node, Tree, Trees, ident, const, letin, define, lambda, sequence, call, set!, nil, cons, begins}
use Rattle.r7rs.specs.Machine.{next, ended, stopped, outside}
use Rattle.r7rs.specs.Plain.{PVal, pconst, punit, pclo, POut}
use Rattle.r7rs.specs.Steps
use Rattle.r7rs.specs.Run.{run, plain}

-- what a run has come to
pub data Last : Type 0 where
  running : Last
  constant : ℕ → Last  -- the constant with this id, not marked #f
  falsity : ℕ → Last  -- the same, marked #f
  unspecified : Last
  procedure : ℕ → Last  -- of the lambda at this record
  stop : Last
  astray : Last  -- outside a frame

abbrev pub value_p : PVal → Last
value_p (pconst c false) = constant c
value_p (pconst c true) = falsity c
value_p punit = unspecified
value_p (pclo i xs e ρ) = procedure i

abbrev pub last_p : POut → Last
last_p (next s) = running
last_p (ended v m) = value_p v
last_p stopped = stop
last_p outside = astray

pub record Seen : Type 0 where
  pub moments : ℕ
  pub last : Last

-- after n moments
abbrev seen : Trees → ℕ → Seen
seen ts n = let p = plain ts n in record { moments = p.made; last = last_p p.now }

-- the identifier at record i whose name is n; other records; those with no id
abbrev pub x : ℕ → ℕ → Ident
x i n = record { at = i; id = suc i; name = n; from = 0; to = 0 }

abbrev pub nd : ℕ → Node
nd i = record { at = i; id = suc i; from = 0; to = 0 }

abbrev pub bare : ℕ → Node
bare i = record { at = i; id = 0; from = 0; to = 0 }

abbrev pub one : Tree → Trees
one t = cons t nil

-- ((lambda (f) (let ((x 2)) (f))) ((lambda (x) (lambda () x)) 1)): the procedure's own x, not its caller's
abbrev scoped : Trees
scoped = one (call (nd 0) (lambda (nd 1) (x 2 1 ∷ []) (letin (nd 3) (x 4 0 ∷ []) (one (const (nd 5) false)) (call (nd 6) (ident (x 7 1)) nil)))
    (one (call (nd 8) (lambda (nd 9) (x 10 0 ∷ []) (lambda (nd 11) [] (ident (x 12 0)))) (one (const (nd 13) false)))))

-- (define x 1) (begin (let ((x 2)) x) x): the let's x has ended
abbrev dropped : Trees
dropped = cons (define (bare 0) (x 1 0) (const (nd 2) false))
    (one (sequence (begins (bare 3)) (cons (letin (nd 4) (x 5 0 ∷ []) (one (const (nd 6) false)) (ident (x 7 0))) (one (ident (x 8 0))))))

-- ((lambda (x) (let ((f (lambda () x))) (begin (set! x 2) (f)))) 1): both mean one location
abbrev pub shared : Trees
shared = one (call (nd 0) (lambda (nd 1) (x 2 0 ∷ []) (letin (nd 3) (x 4 1 ∷ []) (one (lambda (nd 5) [] (ident (x 6 0))))
    (sequence (begins (bare 7)) (cons (set! (bare 8) (x 9 0) (const (nd 10) false)) (one (call (nd 11) (ident (x 12 1)) nil)))))) (one (const (nd 13) false)))

examples : (seen scoped 40 ∷ seen dropped 40 ∷ seen shared 40 ∷ []) ≡ (
    record { moments = 16; last = constant 14 } ∷ record { moments = 10; last = constant 3 } ∷ record { moments = 15; last = constant 11 } ∷ [])
unfolding run plain Steps.give
examples = refl
