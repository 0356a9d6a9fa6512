-- One more moment of a tree's run and some more of its expansion's: what they come to is alike.
use Rattle.std.specs.Prelude.{ℕ, suc, Bool, true, false, cond, not, length, Option, None, Some}
use Rattle.std.proofs.Math.Path.{subst⁻¹}
use Rattle.tree.specs.Tree.{Node, Tree, Trees, ident, const, if, letin, define, lambda, sequence, call, set!, nil, cons, begins, ands, whens}
use Rattle.tree.specs.Expand.{added, expand, expands, expand_and}
use Rattle.r7rs.specs.Machine.{at, After, to_head, to_body, read, pushed, kseq, kand, kset, kdef, kdrop, Got, got, missing, astray, but_n, runs, takes, next, state, on}
use Rattle.r7rs.specs.Plain.{Env, PVal, pconst, punit, pclo, PMem, PBody, PKont, PState, POut, body, pis_false, plainly}
use Rattle.r7rs.specs.Steps.{Procedure, gives, enter, applied, apply, give, after, push, go_on, step}
use Rattle.r7rs.specs.Alike.{expand_value}
use Rattle.r7rs.proofs.Laws.Alike.Values.{expand_mem, expand_body, expand_both, map_got, same_test, expand_push, expand_bind, expand_procedure, expand_callee, expand_caller, expand_get, expand_put, expand_fill}
use Rattle.r7rs.proofs.Laws.Alike.Relation.{follow, then, else, expand_after, Waits, w_end, w_if, w_seq, w_and, w_when, w_push, w_head, w_drop, w_ret, w_set, w_def, Stand, at-start, at-entered, at_read, at_pushed, Same, goes, over, stops, strays, again, tries, Leads}

-- one try more of the expansion's run
later : {o o' : POut} → Leads o (again o') → Leads o o'
later (j, s) = (suc j, s)

enters : (e : Tree) (h h' : Option PVal) (b : PBody) {k k' : PKont} (m : PMem) → Waits k k'
    → Leads (enter plainly e h b k m) (enter plainly (expand e) h' (expand_body b) k' (expand_mem m))
enters e h h' b m w = (0, goes (at-entered e h h' b m w))

-- a test: g is what it comes to on the tree; t and e are the branches of the expansion's if
tested : (g : Bool → POut) (v : PVal) (t e : Tree) (h : Option PVal) (b : PBody) (k : PKont) (m : PMem)
    → Leads (g true) (enter plainly e h b k m) → Leads (g false) (enter plainly t h b k m)
    → Leads (g (pis_false v)) (enter plainly (cond (pis_false (expand_value v)) e t) h b k m)
tested g v t e h b k m x y =
    same_test (λ q q'. Leads (g q) (enter plainly (cond q' e t) h b k m))
    (λ q. elim q as (λ c. Leads (g c) (enter plainly (cond c e t) h b k m)) [ true ↦ x | false ↦ y ]) v

-- the test of a when or an unless
tests : (g : Bool → POut) (q : Bool) (n : Node) (es : Trees) (v : PVal) (h : Option PVal) (b : PBody) (k : PKont) (m : PMem)
    → Leads (g true) (enter plainly (follow n es) h b k m) → Leads (g false) (enter plainly (follow n nil) h b k m)
    → Leads (g (runs q (pis_false v))) (enter plainly (cond (pis_false (expand_value v)) (else q n es) (then q n es)) h b k m)
tests g true n es v h b k m x y = tested (λ f. g (not f)) v (follow n es) (follow n nil) h b k m y x
tests g false n es v h b k m x y = tested g v (follow n nil) (follow n es) h b k m x y

-- a procedure is called

either : {x x' y y' : POut} (q : Bool) → Leads x x' → Leads y y' → Leads (cond q x y) (cond q x' y')
either true l r = l
either false l r = r

calls : (p : Procedure Env) (v : PVal) (i n : ℕ) {k k' : PKont} (b : PBody) (m : PMem) → Waits k k'
    → Leads (applied plainly (Some p) v i n k b m) (applied plainly (Some (expand_procedure p)) (expand_value v) i n k' (expand_body b) (expand_mem m))
calls p v i n {k} {k'} b m w =
    let q = plainly.callee p n b m in
    let o = enter plainly p.of (Some v) q.0 (plainly.caller i n b k) q.1 in
    either (takes p.names n)
    (subst⁻¹ (λ (c : PBody × PMem). Leads o (enter plainly (expand p.of) (Some (expand_value v)) c.0 (plainly.caller i n (expand_body b) k') c.1))
    (expand_callee p n b m)
    (subst⁻¹ (λ (r : PKont). Leads o (enter plainly (expand p.of) (Some (expand_value v)) (expand_body q.0) r (expand_mem q.1)))
    (expand_caller i n b k')
    (enters p.of (Some v) (Some (expand_value v)) q.0 q.1 (w_ret i (body b.of b.env (but_n n b.stack)) w))))
    (0, stops)

applies : (v : PVal) (i n : ℕ) {k k' : PKont} (b : PBody) (m : PMem) → Waits k k'
    → Leads (apply plainly v i n k b m) (apply plainly (expand_value v) i n k' (expand_body b) (expand_mem m))
applies (pconst c q) i n b m w = (0, stops)
applies punit i n b m w = (0, stops)
applies (pclo j xs e ρ) i n b m w = calls (record { names = xs; of = e; kept = ρ }) (pclo j xs e ρ) i n b m w

-- a name is read, or set
gets : {A : Type 0} (a : A → A) (f f' : A → POut) (g : Got A) → ((x : A) → Leads (f x) (f' (a x))) → Leads (on g f) (on (map_got a g) f')
gets a f f' (got x) r = r x
gets a f f' missing r = (0, stops)
gets a f f' astray r = (0, strays)

-- A value is given to what waits
gives-on : {k k' : PKont} → Waits k k' → (v : PVal) (b : PBody) (m : PMem)
    → Leads (give plainly v k b m) (give plainly (expand_value v) k' (expand_body b) (expand_mem m))
unfolding give expand
gives-on (w_end nil) v b m = (0, over)
gives-on (w_end (cons e es)) v b m = enters e (Some v) (Some (expand_value v)) (plainly.top e) m (w_end es)
gives-on (w_if t e {k} {k'} w) v b m =
    let v' = expand_value v in
    tested (λ f. enter plainly (cond f e t) (Some v) b k m) v (expand t) (expand e) (Some v') (expand_body b) k' (expand_mem m)
    (enters e (Some v) (Some v') b m w) (enters t (Some v) (Some v') b m w)
gives-on (w_seq e nil w) v b m = enters e (Some v) (Some (expand_value v)) b m w
gives-on (w_seq e (cons u es) w) v b m = enters e (Some v) (Some (expand_value v)) b m (w_seq u es w)
gives-on (w_and n e nil {k} {k'} w) v b m =
    let v' = expand_value v in
    tested (λ f. cond f (give plainly (pconst 0 true) k b m) (enter plainly e (Some v) b k m)) v (expand e) (const (added n) true)
    (Some v') (expand_body b) k' (expand_mem m)
    (later (gives-on w (pconst 0 true) b m)) (enters e (Some v) (Some v') b m w)
gives-on (w_and n e (cons u es) {k} {k'} w) v b m =
    let v' = expand_value v in
    tested (λ f. cond f (give plainly (pconst 0 true) k b m) (enter plainly e (Some v) b (kand u es k) m)) v
    (expand_and (cons e (cons u es)) n) (const (added n) true) (Some v') (expand_body b) k' (expand_mem m)
    (later (gives-on w (pconst 0 true) b m)) (later (enters e (Some v) (Some v') b m (w_and n u es w)))
gives-on (w_when q n nil {k} {k'} w) v b m =
    let no = later (gives-on w punit b m) in
    tests (λ f. give plainly punit k b m) q n nil v (Some (expand_value v)) (expand_body b) k' (expand_mem m) no no
gives-on (w_when q n (cons e nil) {k} {k'} w) v b m =
    let v' = expand_value v in
    tests (λ f. cond f (enter plainly e (Some v) b k m) (give plainly punit k b m)) q n (expands (cons e nil)) v
    (Some v') (expand_body b) k' (expand_mem m) (later (enters e (Some v) (Some v') b m w)) (later (gives-on w punit b m))
gives-on (w_when q n (cons e (cons u es)) {k} {k'} w) v b m =
    let v' = expand_value v in
    tests (λ f. cond f (enter plainly e (Some v) b (kseq u es k) m) (give plainly punit k b m)) q n (expands (cons e (cons u es))) v
    (Some v') (expand_body b) k' (expand_mem m) (later (enters e (Some v) (Some v') b m (w_seq u es w))) (later (gives-on w punit b m))
gives-on (w_push i i' a n es {k} {k'} w) v b m = (
  0,
  subst⁻¹
      (λ (c : PBody). Same (next (state (pushed i a (suc n) es) (Some v) (plainly.push v b) k m))
      (next (state (pushed i' (expand_after a) (suc n) (expands es)) (Some (expand_value v)) c k' (expand_mem m))))
      (expand_push v b) (goes (at_pushed i i' a (suc n) es (Some v) (Some (expand_value v)) (plainly.push v b) m w)),
)
gives-on (w_head i n w) v b m = applies v i n b m w
gives-on (w_drop n w) v b m = gives-on w v (plainly.drop n b) m
gives-on (w_ret i c w) v b m = gives-on w v c m
gives-on (w_set x {k} {k'} w) v b m =
    let f : PKont → PBody × PMem → POut = λ k q. give plainly punit k q.0 q.1 in
    subst⁻¹ (λ (g : Got (PBody × PMem)). Leads (give plainly v (kset x k) b m) (on g (f k')))
    (expand_put x v b m) (gets expand_both (f k) (f k') (plainly.put x v b m) (λ q. gives-on w punit q.0 q.1))
gives-on (w_def x {k} {k'} w) v b m =
    subst⁻¹ (λ (r : PMem). Leads (give plainly v (kdef x k) b m) (give plainly punit k' (expand_body b) r))
    (expand_fill x v m) (gives-on w punit b (plainly.fill x v m))

-- An argument or initial value is entered, or a call's head, or a let's body

afters : (a : After) (n : ℕ) (h h' : Option PVal) (b : PBody) {k k' : PKont} (m : PMem) → Waits k k'
    → Leads (after plainly a n h b k m) (after plainly (expand_after a) n h' (expand_body b) k' (expand_mem m))
afters (to_head i f) n h h' b m w = enters f h h' b m (w_head i n w)
afters (to_body xs e) n h h' b {k} {k'} m w =
    let q = plainly.bind xs n b m in
    subst⁻¹ (λ (c : PBody × PMem). Leads (after plainly (to_body xs e) n h b k m) (enter plainly (expand e) h' c.0 (kdrop (length xs) k') c.1))
    (expand_bind xs n b m) (enters e h h' q.0 q.1 (w_drop (length xs) w))

pushes : (a : After) (n : ℕ) (es : Trees) (h h' : Option PVal) (b : PBody) {k k' : PKont} (m : PMem) → Waits k k'
    → Leads (push plainly a n es h b k m) (push plainly (expand_after a) n (expands es) h' (expand_body b) k' (expand_mem m))
unfolding expand
pushes a n nil h h' b m w = afters a n h h' b m w
pushes a n (cons e es) h h' b m w = enters e h h' b m (w_push (at e) (at (expand e)) a n es w)

-- both runs come to the same by some more tries
abbrev pub Meet : POut → POut → Type 0
Meet o o' = (p : ℕ) × Leads (tries p o) o'

-- From an expression entered on. An and of one child is entered before the child, where its expansion is the child: there the tree's run alone goes
-- on, up to the child's own next moment.
mutual
  unfolding expand give

  goes_on : (e : Tree) (h h' : Option PVal) (b : PBody) {k k' : PKont} (m : PMem) → Waits k k'
      → Meet (go_on plainly e (gives plainly e b h) b k m)
      (go_on plainly (expand e) (gives plainly (expand e) (expand_body b) h') (expand_body b) k' (expand_mem m))
  goes_on (ident x) h h' b {k} {k'} m w = (
    0,
    let f : PVal → POut = λ v. next (state (read x.at) (Some v) b k m) in
        let f' : PVal → POut = λ v. next (state (read x.at) (Some v) (expand_body b) k' (expand_mem m)) in
        subst⁻¹ (λ (g : Got PVal). Leads (go_on plainly (ident x) h b k m) (on g f'))
        (expand_get x b m) (gets expand_value f f' (plainly.get x b m) (λ v. (0, goes (at_read x.at v b m w)))),
  )
  goes_on (const n q) h h' b m w = (0, gives-on w (pconst n.id q) b m)
  goes_on (if n a t e) h h' b m w = (0, enters a h h' b m (w_if t e w))
  goes_on (letin n xs es e) h h' b m w = (0, pushes (to_body xs e) 0 es h h' b m w)
  goes_on (define n x e) h h' b m w = (0, enters e h h' b m (w_def x w))
  goes_on (lambda n xs e) h h' b m w = (0, gives-on w (pclo n.at xs e b.env) b m)
  goes_on (sequence (begins n) nil) h h' b m w = (0, gives-on w punit b m)
  goes_on (sequence (begins n) (cons e nil)) h h' b m w = (0, enters e h h' b m w)
  goes_on (sequence (begins n) (cons e (cons u es))) h h' b m w = (0, enters e h h' b m (w_seq u es w))
  goes_on (sequence (ands n) es) h h' b m w = goes_and es n h h' b m w
  goes_on (sequence (whens true n) nil) h h' b m w = (0, later (later (gives-on w punit b m)))
  goes_on (sequence (whens false n) nil) h h' b m w = (0, later (later (gives-on w punit b m)))
  goes_on (sequence (whens true n) (cons e es)) h h' b m w = (0, enters e h h' b m (w_when true n es w))
  goes_on (sequence (whens false n) (cons e es)) h h' b m w = (0, enters e h h' b m (w_when false n es w))
  goes_on (call n f es) h h' b m w = (0, pushes (to_head n.at f) 0 es h h' b m w)
  goes_on (set! n x e) h h' b m w = (0, enters e h h' b m (w_set x w))

  goes_and : (es : Trees) (n : Node) (h h' : Option PVal) (b : PBody) {k k' : PKont} (m : PMem) → Waits k k'
      → Meet (go_on plainly (sequence (ands n) es) (gives plainly (sequence (ands n) es) b h) b k m)
      (go_on plainly (expand_and es n) (gives plainly (expand_and es n) (expand_body b) h') (expand_body b) k' (expand_mem m))
  goes_and nil n h h' b m w = (0, gives-on w (pconst 0 false) b m)
  goes_and (cons e nil) n h h' b m w = let (p, l) = goes_on e h h' b m w in (suc p, l)
  goes_and (cons e (cons u es)) n h h' b m w = (0, enters e h h' b m (w_and n u es w))

-- one more try of each run, and some
pub steps : {s s' : PState} → Stand s s' → Meet (step plainly s) (step plainly s')
unfolding expand
steps (at-start nil m) = (0, (0, over))
steps (at-start (cons e es) m) = (0, enters e None None (plainly.top e) m (w_end es))
steps (at-entered e h h' b m w) = goes_on e h h' b m w
steps (at_read i v b m w) = (0, gives-on w v b m)
steps (at_pushed i i' a n es h h' b m w) = (0, pushes a n es h h' b m w)
