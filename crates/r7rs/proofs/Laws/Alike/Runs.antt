-- The plain machine runs a tree and its expansion alike.
use Rattle.std.specs.Prelude.{ℕ, zero, suc, ◌+◌, [], ◌≡◌, refl, None}
use Rattle.std.proofs.Common.{ap, sym, ◌∙◌, subst, zero-add, suc-add}
use Rattle.std.proofs.Math.Path.{subst⁻¹}
use Rattle.tree.specs.Tree.{Trees, nil}
use Rattle.tree.specs.Expand.{expands}
use Rattle.r7rs.specs.Machine.{start, kend, next, ended, stopped, outside, state, unbound}
use Rattle.r7rs.specs.Plain.{PState, POut, body, mem, plainly}
use Rattle.r7rs.specs.Steps.{step}
use Rattle.r7rs.specs.Run.{tried, more, run, no_body, plain}
use Rattle.r7rs.specs.Alike.{Over, has_ended_lem, has_stopped_lem, Alike, ends, stops, RunAlike}
use Rattle.r7rs.proofs.Laws.Alike.Relation.{at-start, Same, goes, over, again, tries}
use Rattle.r7rs.proofs.Laws.Alike.Relation
use Rattle.r7rs.proofs.Laws.Alike.Step.{steps}

-- Tries in another order, and one after another

again-tries : (n : ℕ) (o : POut) → tries n (again o) ≡ again (tries n o)
again-tries zero o = refl
again-tries (suc n) o = again-tries n (again o)

tries-tries : (p n : ℕ) (o : POut) → tries n (tries p o) ≡ tries p (tries n o)
tries-tries zero n o = refl
tries-tries (suc p) n o = tries-tries p n (again o) ∙ ap (tries p) (again-tries n o)

tries_sum : (j k : ℕ) (o : POut) → tries k (tries j o) ≡ tries (j + k) o
tries_sum zero k o = rw zero-add
tries_sum (suc j) k o = rw suc-add (tries_sum j k (again o))

-- a run that is over stays so

over-tries : (p : ℕ) {o : POut} → Over o → tries p o ≡ o
over-tries zero r = refl
over-tries (suc p) has_ended_lem = over-tries p has_ended_lem
over-tries (suc p) has_stopped_lem = over-tries p has_stopped_lem

over-after : (p n : ℕ) (o : POut) → Over (tries n o) → tries n (tries p o) ≡ tries n o
over-after p n o r = tries-tries p n o ∙ over-tries p r

-- Say that two runs which stand as Q says come to stand so again, the first by a try or more. Then, where the first is over after n tries, the second
-- comes to stand so to it.
module _ (Q : POut → POut → Type 0) (meet : (s : PState) (o : POut) → Q (next s) o → (p : ℕ) × (j : ℕ) × Q (tries p (step plainly s)) (tries j o)) where
  comes : (n : ℕ) (o o' : POut) → Q o o' → Over (tries n o) → (k : ℕ) × Q (tries n o) (tries k o')
  comes zero o o' q r = (0, q)
  comes (suc n) (next s) o' q r =
      let (p, j, q') = meet s o' q in
      let e = over-after p n (step plainly s) r in
      let (k, x) = comes n (tries p (step plainly s)) (tries j o') q' (subst⁻¹ Over e r) in
      (j + k, subst (λ (a : POut). Q a (tries (j + k) o')) e (subst (Q (tries n (tries p (step plainly s)))) (tries_sum j k o') x))
  comes (suc n) (ended v m) o' q r = comes n (ended v m) o' q r
  comes (suc n) stopped o' q r = comes n stopped o' q r
  comes (suc n) outside o' q r = comes n outside o' q r

meets : (s : PState) (o : POut) → Same (next s) o → (p : ℕ) × (j : ℕ) × Same (tries p (step plainly s)) (tries j o)
meets s o (goes d) = let (p, (j, x)) = steps d in (p, suc j, x)

meets_back : (s : PState) (o : POut) → Same o (next s) → (p : ℕ) × (j : ℕ) × Same (tries j o) (tries p (step plainly s))
meets_back s o (goes d) = let (p, (j, x)) = steps d in (j, suc p, x)

-- what is alike is over alike

alike_forth : {o o' : POut} → Same o o' → Over o → Alike o o'
alike_forth over has_ended_lem = ends refl (λ x. refl) refl
alike_forth Relation.stops has_stopped_lem = stops
alike_forth (goes _) r = elim r [ ]
alike_forth Relation.strays r = elim r [ ]

alike_back : {o o' : POut} → Same o o' → Over o' → Alike o o'
alike_back over has_ended_lem = ends refl (λ x. refl) refl
alike_back Relation.stops has_stopped_lem = stops
alike_back (goes _) r = elim r [ ]
alike_back Relation.strays r = elim r [ ]

-- the tries of a run

tried_now : (i : ℕ) (o : POut) → (tried i o).now ≡ o
tried_now i (next s) = refl
tried_now i (ended v m) = refl
tried_now i stopped = refl
tried_now i outside = refl

more_now : (i : ℕ) (o : POut) → (more (step plainly) i o).now ≡ again o
more_now i (next s) = tried_now i (step plainly s)
more_now i (ended v m) = refl
more_now i stopped = refl
more_now i outside = refl

run-tries : (s : PState) (n : ℕ) → (run (step plainly) s n).now ≡ tries n (next s)
unfolding run
run-tries s zero = refl
run-tries s (suc n) =
    let r = run (step plainly) s n in
    more_now r.made r.now ∙ ap again (run-tries s n) ∙ sym (again-tries n (next s))

abbrev begun : Trees → POut
begun ts = next (state (start ts) None (body no_body [] []) (kend nil) (mem [] unbound))

plain-tries : (ts : Trees) (n : ℕ) → (plain ts n).now ≡ tries n (begun ts)
unfolding plain
plain-tries ts n = run-tries (state (start ts) None (body no_body [] []) (kend nil) (mem [] unbound)) n

begins_alike : (ts : Trees) → Same (begun ts) (begun (expands ts))
begins_alike ts = goes (at-start ts (mem [] unbound))

-- The theorem
pub run_alike : (ts : Trees) → RunAlike ts
run_alike ts = record {
  forth = λ n r.
      let r' = subst Over (plain-tries ts n) r in
      let (k, x) = comes Same meets n (begun ts) (begun (expands ts)) (begins_alike ts) r' in
      (k, rw (plain-tries ts n, plain-tries (expands ts) k) (alike_forth x r'));
  back = λ k r.
      let r' = subst Over (plain-tries (expands ts) k) r in
      let (n, x) = comes (λ o' o. Same o o') meets_back k (begun (expands ts)) (begun ts) (begins_alike ts) r' in
      (n, rw (plain-tries ts n, plain-tries (expands ts) k) (alike_back x r'));
}
