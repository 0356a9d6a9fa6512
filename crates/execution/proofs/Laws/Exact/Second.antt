-- The claim on refusals 11 and 12 of the settled run holds.
use Rattle.std.specs.Prelude.{ℕ, ◌+◌, Bool, not, ◌&&◌, ◌||◌, ◌≡◌, eqb, Option, None, Some}
use mathlib.Core.List.{List, [], ◌∷◌, ◌++◌, append_assoc}
use Rattle.std.proofs.Math.Bool.{true, false, cond, and-true, or-false}
use Rattle.std.proofs.Math.Path.{refl, ap, sym}
use Rattle.std.proofs.Common.{◌∙◌, arith, eq-eqb}
use Rattle.tree.specs.Tree.{Trees, sizes}
use Rattle.tree.specs.Check.{member}
use Rattle.tree.specs.Accepted.{All}
use Rattle.pass.specs.State.{Noted}
use Rattle.pass.specs.Run.{no_facts, fresh, refused_first, or_second}
use Rattle.pass_laws.specs.Laws.All.{all_map}
use Rattle.pass_laws.specs.Laws.Layers.{or-false as both_false}
use Rattle.pass_laws.specs.Laws.Levels.{EachEvent, each_mention, levels, Known, Placed, placed-all}
use Rattle.pass_laws.specs.Laws.Says.{is_set_in}
use Rattle.pass_laws.specs.Laws.Finds.{Of, of_some, find-all}
use Rattle.r7rs.specs.Binding.{Binder, Mention, Event, enters, mentions, ends, events, mentions_in, meant, top}
use Rattle.execution.specs.References.{is_set_of, any}
use Rattle.execution.specs.Acceptance.{is_empty, is_eleven, is_doubled, is_set_within, is_twelve_of, is_twelve, second_from}
use Rattle.execution.specs.Claims.{SecondExact}
use Rattle.execution.proofs.Laws.BindingFresh.{each_all, Sound}
use Rattle.execution.proofs.Laws.BindingSettled.{any-++, In, zone_set, shared_is, unnoted_of}
use Rattle.execution.proofs.Laws.Exact.Nine.{run_nine}
use Rattle.execution.proofs.Laws.Settled.Listed.{times_in}
use Rattle.execution.proofs.Laws.Settled.Again.{Script, is_twelve_by}
use Rattle.execution.proofs.Laws.Settled.Zones.{Zone}
use Rattle.execution.proofs.Laws.Settled.Bounds.{Zoned, by_end}
use Rattle.execution.proofs.Laws.Settled.Refused.{is_eleven_by, is_twelve_at, second_by}
use Rattle.execution.proofs.Laws.Settled.Nested.{Suffix, Nested, NestedAt, not_live, nested-all, outside_second, times_once}
use Rattle.execution.proofs.Laws.Settled.Whole.{script_of, script_bounds, settled_second}

-- Tests

and_assoc : (a b c : Bool) → ((a && b) && c) ≡ (a && (b && c))
and_assoc true b c = refl
and_assoc false b c = refl

-- Sets of a binder, in lists of mentions

module _ (p : Mention → Bool) where
  -- fewer mentions pass a narrower test
  narrower : (q : Mention → Bool) (l : List Mention) → any p l ≡ false → any (λ o. p o && q o) l ≡ false
  unfolding any
  narrower q [] e = refl
  narrower q (m ∷ l) e = let b = both_false (p m) (any p l) e in rw b.0 (narrower q l b.1)

  -- leaving out what none passes
  without : (q : Mention → Bool) (l : List Mention) → any q l ≡ false → any (λ o. p o && not (q o)) l ≡ any p l
  unfolding any
  without q [] e = refl
  without q (m ∷ l) e = let b = both_false (q m) (any q l) e in rw (b.0, and-true (p m)) (ap (λ (z : Bool). p m || z) (without q l b.1))

-- a mention means b, before and after it are others
module _ (E : List Event) (b : Binder) (before after : List Mention) (m : Mention) (is : mentions_in E ≡ before ++ (m ∷ after)) where
  abbrev p : Mention → Bool
  p = is_set_of b

  -- b is set by the end of the lambda k, which stands around m
  set_by : (k : ℕ) → Zone E k → In k m → is_set_in b.ident.at (by_end E k) ≡ any p before || any (is_set_within k b) (m ∷ after)
  set_by k z i = zone_set E k z b before after m is i ∙ ap (λ (x : Bool). any p before || x)
      (ap (any (is_set_within k b)) is ∙ any-++ (is_set_within k b) before (m ∷ after)) ∙ go (any p before) refl
    where
      rest : Bool
      rest = any (is_set_within k b) (m ∷ after)

      go : (a : Bool) → any p before ≡ a → (a || (any (is_set_within k b) before || rest)) ≡ (a || rest)
      go true e = refl
      go false e = ap (λ (x : Bool). x || rest) (narrower p (λ o. member k o.place.around) before e)

  -- set after the end of the lambda i, by the end of j
  late-set : (i j : ℕ) → In i m → (a : Bool) → any p before ≡ a → (v : Bool) → any (is_set_within i b) (m ∷ after) ≡ v
      → (not (a || v) && (a || any (is_set_within j b) (m ∷ after))) ≡ (not (a || v) && any (λ o. is_set_within j b o && not (is_set_within i b o)) after)
  unfolding any
  late-set i j h true e v g = refl
  late-set i j h false e true g = refl
  late-set i j h false e false g =
      let w = both_false (is_set_within i b m) (any (is_set_within i b) after) g in
      let unset : is_set_of b m ≡ false = sym (and-true (is_set_of b m)) ∙ ap (λ (z : Bool). is_set_of b m && z) (sym h) ∙ w.0 in
      rw unset (sym (without (is_set_within j b) (is_set_within i b) after w.1))

  twelve_is : (sc : List Binder) (x : ℕ) (a : List ℕ) → m.place.around ≡ a → All (Zone E) a → Suffix b.around a
      → eqb (times_in x sc) 1 ≡ not (is_doubled b sc) → sc ≡ m.place.scope
      → is_twelve_by (by_end E) sc x b a ≡ is_twelve_of before after m b a
  twelve_is sc x [] e z s t g = refl
  twelve_is sc x (i ∷ []) e z s t g = refl
  twelve_is sc x (i ∷ j ∷ is) e z s t g =
      let in-i : In i m = ap (member i) e ∙ rw (eq-eqb i i refl) in
      let in-j : In j m = ap (member j) e ∙ rw (eq-eqb j j refl, or-last (eqb j i)) in
      let set-i = set_by i z.0 in-i in
      let set-j = set_by j z.1.0 in-j in
      let v = any (is_set_within i b) (m ∷ after) in
      let last : (not (is_set_in b.ident.at (by_end E i)) && is_set_in b.ident.at (by_end E j)) ≡ (not (any p before || v) && any
      (λ o. is_set_within j b o && not (is_set_within i b o)) after) =
      (λ k. not (set-i k) && set-j k) ∙ late-set i j in-i (any p before) refl v refl in
      (λ k. outside_second s k && (t k && last k)) ∙ ap (λ (y : List Binder). not (member j b.around) &&
      (not (is_doubled b y) && (not (any p before || v) && any (λ o. is_set_within j b o && not (is_set_within i b o)) after))) g
    where
      or-last : (q : Bool) → (q || (true || member j is)) ≡ true
      or-last true = refl
      or-last false = refl

-- What is known of each event of the script
module _ (classes : List ℕ) (ts : Trees) where
  abbrev S : Script
  S = script_of classes ts

  abbrev E : List Event
  E = events ts

  abbrev all : List Mention
  all = mentions_in E

  abbrev Ready : Event → Type 0
  Ready (enters b sc) = Known (levels ts) b
  Ready (mentions m) = All (Zone E) m.place.around × Nested m.place
  Ready (ends i xs sc) = Unit {0}

  mention_is : (before after : List Mention) (m : Mention) → all ≡ before ++ (m ∷ after) → All (Zone E) m.place.around → Nested m.place
      → (o : Option Binder) → meant m ≡ o → Of (λ b. Suffix b.around m.place.around) o → is_twelve_at S m o ≡ is_twelve before after m o
  mention_is before after m is z n None e k = refl
  mention_is before after m is z n (Some b) e (of_some k) =
      twelve_is E b before after m is m.place.scope m.ident.name m.place.around refl z k
      (times_once m.place.scope m.ident.name b n.distinct e) refl

  -- the same mentions in another order
  module _ (before seen : List Mention) (same : (p : Mention → Bool) → any p seen ≡ any p before) where
    reordered_of : (after : List Mention) (m : Mention) (b : Binder) (a : List ℕ) → is_twelve_of before after m b a ≡ is_twelve_of seen after m b a
    reordered_of after m b [] = refl
    reordered_of after m b (i ∷ []) = refl
    reordered_of after m b (i ∷ j ∷ is) =
        ap (λ (x : Bool). not (member j b.around) && (not (is_doubled b m.place.scope) && (not (x || any (is_set_within i b) (m ∷ after))
        && any (λ o. is_set_within j b o && not (is_set_within i b o)) after))) (sym (same (is_set_of b)))

    reordered : (after : List Mention) (m : Mention) (o : Option Binder) → is_twelve before after m o ≡ is_twelve seen after m o
    reordered after m None = refl
    reordered after m (Some b) = reordered_of after m b m.place.around

  seen_more : (p : Mention → Bool) (before seen : List Mention) (m : Mention) → any p seen ≡ any p before → any p (m ∷ seen) ≡ any p (before ++ (m ∷ []))
  unfolding any
  seen_more p before seen m e = ap (λ (x : Bool). p m || x) e ∙ swap (p m) (any p before) ∙ sym
      (any-++ p before (m ∷ []) ∙ ap (λ (x : Bool). any p before || x) (or-false (p m)))
    where
      swap : (a b : Bool) → (a || b) ≡ (b || a)
      swap true true = refl
      swap true false = refl
      swap false true = refl
      swap false false = refl

  seconds : (sound : All (Sound (levels ts)) all) (before seen : List Mention) (l : List Event) → all ≡ before ++ mentions_in l
      → ((p : Mention → Bool) → any p seen ≡ any p before) → All Ready l
      → second_by S l ≡ second_from all seen l
  unfolding second_by second_from
  seconds sound before seen [] is same r = refl
  seconds sound before seen (enters b sc ∷ l) is same r =
      let eleven : is_eleven_by S b ≡ is_eleven all b =
      and_assoc b.is_let (is_empty b.around) _ ∙ ap (λ (x : Bool). b.is_let && (is_empty b.around && x)) (shared_is classes ts [] b r.0 sound) in
      (λ k. cond (eleven k) (Some (record { number = 11; at = b.ident.at })) (seconds sound before seen l is same r.1 k))
  seconds sound before seen (mentions m ∷ l) is same r =
      let twelve : is_twelve_at S m (meant m) ≡ is_twelve seen (mentions_in l) m (meant m) =
      mention_is before (mentions_in l) m is r.0.0 r.0.1 (meant m) refl (find-all m.place.scope r.0.1.around m.ident.name) ∙ reordered
      before seen same (mentions_in l) m (meant m) in
      let rest = seconds sound (before ++ (m ∷ [])) (m ∷ seen) l (is ∙ sym (append_assoc before (m ∷ []) (mentions_in l)))
      (λ p. seen_more p before seen m (same p)) r.1 in
      (λ k. cond (twelve k) (Some (record { number = 12; at = m.ident.at })) (rest k))
  seconds sound before seen (ends i xs sc ∷ l) is same r = seconds sound before seen l is same r.1

  ready : (l : List Event) → EachEvent (Known (levels ts)) (Placed (levels ts) 0 (0 + sizes ts)) l → All (Zoned E) l → All NestedAt l → All Ready l
  ready [] k z n = tt
  ready (enters b sc ∷ l) k z n = (k.0, ready l k.1 z.1 n.1)
  ready (mentions m ∷ l) k z n = ((z.0, n.0), ready l k.1 z.1 n.1)
  ready (ends i xs sc ∷ l) k z n = (tt, ready l k z.1 n.1)

pub second_exact : SecondExact
unfolding events fresh
second_exact classes rs ts a d =
    let n = a.accepted.num in
    let unnoted = unnoted_of (fresh classes ts).noted None (first-none (fresh classes ts).noted a.not_refused) in
    let placed = placed-all (levels ts) 0 ts n top tt (λ i l u. omega arith) in
    let sound = all_map (Placed (levels ts) 0 (0 + sizes ts)) (Sound (levels ts)) (λ n q. q.scope) (mentions_in (events ts))
    (each_all _ (events ts) (each_mention _ _ (events ts) placed)) in
    let live = not_live (events ts) (sym (run_nine classes ts no_facts d) ∙ unnoted.nine) in
    let nested = nested-all 0 ts n top (λ i l. refl) (record { distinct = tt; around = tt }) live in
    settled_second classes ts n a.accepted.few d unnoted
    ∙ seconds classes ts sound [] [] (events ts) refl (λ p. refl) (ready classes ts (events ts) placed (script_bounds ts n).zoned nested)
  where
    first-none : (m : Noted) → refused_first m ≡ None → or_second (refused_first m) None ≡ None
    first-none m e = rw e
