-- The claim on the settled run's binding holds.
use Rattle.std.specs.Prelude.{ℕ, ◌+◌, List, [], ◌∷◌, ◌++◌, Bool, true, false, cond, ◌&&◌, ◌||◌, ◌≡◌, refl, length, get_or, Option, None, Some}
use Rattle.std.proofs.lemmas.Option.{none-some}
use Rattle.std.proofs.Math.Bool.{and-true, and-false, or-false}
use Rattle.std.proofs.Common.{true≢false, ap, sym, subst, ◌∙◌, arith, ltb-true, eq-eqb}
use Rattle.tree.specs.Tree.{Trees, sizes}
use Rattle.tree.specs.Check.{Refusal, member}
use Rattle.tree.specs.Accepted.{All}
use Rattle.semantic.specs.Information.{NONE}
use Rattle.semantic.specs.Rows.{Row, Blank}
use Rattle.semantic.specs.declared.IdentifierStatus.TheVariants.{Local, LetVar, Captured, HeapAllocated}
use Rattle.pass.specs.State.{Noted}
use Rattle.pass.specs.Run.{fresh, settled, refused_first, or_second, nine_or, ten_at}
use Rattle.pass_laws.specs.Laws.All.{all_right, all_map}
use Rattle.pass_laws.specs.Laws.Levels.{each_mention, each_binder, levels, Known, Placed, placed-all}
use Rattle.pass_laws.specs.Laws.Says.{mentions_in_lem, is_set_in}
use Rattle.pass_laws.specs.Laws.Finds.{Of, of_some, find-all}
use Rattle.pass_laws.specs.Laws.Bottoms.{cell}
use Rattle.r7rs.specs.Binding.{Binder, Mention, Event, enters, mentions, ends, events, mentions_in, binders_in, meant, is_inner, top}
use Rattle.r7rs.specs.Bottom.{bottom_entry}
use Rattle.execution.specs.References.{reference, reference_in, is_set_of, any, is_within, is_shared, settled_own, settled_inner, settled_bound, settled_binder}
use Rattle.execution.specs.Claims.{BindingSettled}
use Rattle.execution.proofs.Laws.BindingFresh.{refers, each_all, Sound, inner-before, set_before, cell_refers}
use Rattle.execution.proofs.Laws.Settled.Ending.{Unnoted}
use Rattle.execution.proofs.Laws.Settled.Again.{Script, shared}
use Rattle.execution.proofs.Laws.Settled.Told.{head_of, told_kind, TellsOf, TellsAll}
use Rattle.execution.proofs.Laws.Settled.Zones.{until_end, Lacks, Has, Zone, zone_until}
use Rattle.execution.proofs.Laws.Settled.Bounds.{Zoned, by_end}
use Rattle.execution.proofs.Laws.Settled.Whole.{script_of, script_bounds, settled_tells}

-- Mentions of a binder in two lists

pub any-++ : (p : Mention → Bool) (l r : List Mention) → any p (l ++ r) ≡ any p l || any p r
unfolding any
any-++ p [] r = refl
any-++ p (m ∷ l) r = go (p m) (any-++ p l r)
  where
    go : (b : Bool) → any p (l ++ r) ≡ any p l || any p r → b || any p (l ++ r) ≡ (b || any p l) || any p r
    go true e = refl
    go false e = e

-- A lambda k: the mentions before it, inside it and after it

abbrev pub Out : ℕ → Mention → Type 0
Out k o = member k o.place.around ≡ false

abbrev pub In : ℕ → Mention → Type 0
In k o = member k o.place.around ≡ true

out_of : (k : ℕ) (l : List Event) → All (Lacks k) l → All (Out k) (mentions_in l)
out_of k [] a = tt
out_of k (enters b sc ∷ l) a = out_of k l a.1
out_of k (mentions m ∷ l) a = (a.0.1, out_of k l a.1)
out_of k (ends i xs sc ∷ l) a = out_of k l a.1

in_of : (k : ℕ) (l : List Event) → All (Has k) l → All (In k) (mentions_in l)
in_of k [] a = tt
in_of k (enters b sc ∷ l) a = in_of k l a.1
in_of k (mentions m ∷ l) a = (a.0.1, in_of k l a.1)
in_of k (ends i xs sc ∷ l) a = in_of k l a.1

abbrev tail_of : List Mention → List Mention
tail_of [] = []
tail_of (m ∷ l) = l

abbrev first_of : Mention → List Mention → Mention
first_of d [] = d
first_of d (m ∷ l) = m

-- a mention inside it stands after those before it
pub record After (l r before : List Mention) (m : Mention) (after : List Mention) : Type 0 where
  pub part : List Mention
  pub before_is : before ≡ l ++ part
  pub rest_is : r ≡ part ++ (m ∷ after)

pub after_those : (k : ℕ) (l r before : List Mention) (m : Mention) (after : List Mention) → l ++ r ≡ before ++ (m ∷ after) → All (Out k) l → In k m
    → After l r before m after
after_those k [] r before m after e a i = record { part = before; before_is = refl; rest_is = e }
after_those k (c ∷ l) r [] m after e a i = absurd (true≢false (sym i ∙ ap (λ (o : Mention). member k o.place.around) (sym (ap (first_of m) e)) ∙ a.0))
after_those k (c ∷ l) r (d ∷ before) m after e a i =
    let q = after_those k l r before m after (ap tail_of e) a.1 i in
    record { part = q.part; before_is = λ j. first_of c (sym e j) ∷ q.before_is j; rest_is = q.rest_is }

-- and before those after it
pub record Amid (inside part : List Mention) (m : Mention) : Type 0 where
  pub rest : List Mention
  pub is : inside ≡ part ++ (m ∷ rest)

pub amid : (k : ℕ) (inside out part : List Mention) (m : Mention) (after : List Mention) → inside ++ out ≡ part ++ (m ∷ after) → All (Out k) out → In k m
    → Amid inside part m
amid k [] out part m after e a i = absurd (true≢false (sym i ∙ (all_right (Out k) part (m ∷ after) (subst (All (Out k)) e a)).0))
amid k (c ∷ inside) out [] m after e a i = record { rest = inside; is = λ j. first_of c (e j) ∷ inside }
amid k (c ∷ inside) out (d ∷ part) m after e a i =
    let q = amid k inside out part m after (ap tail_of e) a i in
    record { rest = q.rest; is = λ j. first_of c (e j) ∷ q.is j }

-- sets within the lambda
within_out : (k : ℕ) (p : Mention → Bool) (l : List Mention) → All (Out k) l → any (λ o. p o && member k o.place.around) l ≡ false
unfolding any
within_out k p [] a = refl
within_out k p (m ∷ l) a = rw (a.0, and-false (p m)) (within_out k p l a.1)

within_in : (k : ℕ) (p : Mention → Bool) (l : List Mention) → All (In k) l → any (λ o. p o && member k o.place.around) l ≡ any p l
unfolding any
within_in k p [] a = refl
within_in k p (m ∷ l) a = rw (a.0, and-true (p m)) (ap (λ (q : Bool). p m || q) (within_in k p l a.1))

module _ (E : List Event) (k : ℕ) (z : Zone E k) where
  abbrev pub early : List Mention
  early = mentions_in z.before

  abbrev pub inner : List Mention
  inner = mentions_in z.inside

  abbrev pub late : List Mention
  late = mentions_in z.after

  pub zone_mentions : mentions_in E ≡ early ++ (inner ++ late)
  zone_mentions = ap mentions_in z.is ∙ mentions_in_lem z.before _ ∙ ap (λ (l : List Mention). early ++ l) (mentions_in_lem z.inside _)

  -- those by its end
  pub zone_by : mentions_in (until_end k E) ≡ early ++ inner
  zone_by = ap mentions_in (zone_until k z) ∙ mentions_in_lem z.before z.inside

  pub zone_within : (p : Mention → Bool) → any (λ o. p o && member k o.place.around) (mentions_in E) ≡ any p inner
  zone_within p =
      let w : Mention → Bool = λ o. p o && member k o.place.around in
      ap (any w) zone_mentions
      ∙ any-++ w early (inner ++ late)
      ∙ (λ j. within_out k p early (out_of k z.before z.lacks_before) j || any-++ w inner late j)
      ∙ (λ j. within_in k p inner (in_of k z.inside z.has) j || within_out k p late (out_of k z.after z.lacks_after) j)
      ∙ or-false (any p inner)

  twice : (a b c : Bool) → (a || b) || (b || c) ≡ a || (b || c)
  twice true b c = refl
  twice false true c = refl
  twice false false c = refl

  pub zone_set : (b : Binder) (before after : List Mention) (m : Mention) → mentions_in E ≡ before ++ (m ∷ after) → In k m
      → is_set_in b.ident.at (by_end E k) ≡ any (is_set_of b) before || any (λ o. is_set_of b o && member k o.place.around) (mentions_in E)
  zone_set b before after m e i =
      let p = is_set_of b in
      let q = after_those k early (inner ++ late) before m after (sym zone_mentions ∙ e) (out_of k z.before z.lacks_before) i in
      let r = amid k inner late q.part m after q.rest_is (out_of k z.after z.lacks_after) i in
      let split : any p inner ≡ any p q.part || any p (m ∷ r.rest) = ap (any p) r.is ∙ any-++ p q.part (m ∷ r.rest) in
      set_before b (mentions_in (until_end k E)) ∙ ap (any p) zone_by ∙ any-++ p early inner
      ∙ ap (λ (x : Bool). any p early || x) split
      ∙ sym (twice (any p early) (any p q.part) (any p (m ∷ r.rest)))
      ∙ (λ j. sym (any-++ p early q.part) j || sym split j)
      ∙ (λ j. any p (sym q.before_is j) || sym (zone_within p) j)

first : (k : ℕ) (ks : List ℕ) → member k (k ∷ ks) ≡ true
first k ks = rw (eq-eqb k k refl)

-- One mention of the walk

module _ (classes : List ℕ) (ts : Trees) (R : List Row) where
  abbrev S : Script
  S = script_of classes ts

  told-all : (l : List Event) → TellsAll classes S R (cell ts) l → All (λ m. TellsOf classes S R (cell ts) m (meant m)) (mentions_in l)
  told-all [] t = tt
  told-all (enters b sc ∷ l) t = told-all l t.1
  told-all (mentions m ∷ l) t = (t.0, told-all l t.1)
  told-all (ends i xs sc ∷ l) t = told-all l t

  pub shared_is : (b : Binder) → Known (levels ts) b → All (Sound (levels ts)) (mentions_in (events ts))
      → shared S.U b.ident.at ≡ is_shared b (mentions_in (events ts))
  shared_is b k a = λ j. inner-before (levels ts) b k (mentions_in (events ts)) a j && set_before b (mentions_in (events ts)) j

  told-bound : (l : List Event) → TellsAll classes S R (cell ts) l → All (Known (levels ts)) (binders_in l) → All (Sound (levels ts)) (mentions_in (events ts))
      → All (λ b. reference_in (get_or R b.ident.at Blank) ≡ Some (settled_binder classes ts b)) (binders_in l)
  told-bound [] t k a = tt
  told-bound (enters b sc ∷ l) t k a = (
    refers t.0 ∙ ap (λ (q : Bool). Some (reference (cond q HeapAllocated (cond b.is_let LetVar Local)) NONE b.home.layer NONE)) (shared_is b k.0 a),
    told-bound l t.1 k.1 a,
  )
  told-bound (mentions m ∷ l) t k a = told-bound l t.1 k a
  told-bound (ends i xs sc ∷ l) t k a = told-bound l t k a

  module _ (before after : List Mention) (m : Mention) (e : mentions_in (events ts) ≡ before ++ (m ∷ after)) where
    -- an inner mention stands in a lambda
    set_by_end : (a : List ℕ) (b : Binder) → m.place.around ≡ a → is_inner m b ≡ true → All (Zone (events ts)) a
        → is_set_in b.ident.at (S.G (head_of a)) ≡ any (is_set_of b) before || any (λ o. is_set_of b o && is_within a o) (mentions_in (events ts))
    set_by_end [] b g i z = absurd (omega (arith, ltb-true (length b.around) (length m.place.around) i, ap length g))
    set_by_end (k ∷ ks) b g i z =
        zone_set (events ts) k z.0 b before after m e (ap (member k) g ∙ first k ks)

    told_refers : (o : Option Binder) → meant m ≡ o → Of (Known (levels ts)) o → All (Sound (levels ts)) (mentions_in (events ts))
        → All (Zone (events ts)) m.place.around
        → TellsOf classes S R (cell ts) m o → reference_in (get_or R m.ident.at Blank) ≡ Some (settled_bound classes ts before m o)
    told_refers None g k a z t = cell_refers classes ts R (levels ts) before m (bottom_entry ts m.ident.name m.ident.at) t
    told_refers (Some b) g (of_some k) a z t = refers t ∙ ap Some (go (is_inner m b) refl)
      where
        go : (i : Bool) → is_inner m b ≡ i → reference (told_kind S m b) b.ident.id m.place.site.layer
            (cond (is_inner m b) NONE (cond (shared S.U b.ident.at) b.place b.home.slot))
            ≡ cond (is_inner m b) (settled_inner classes ts before m b) (settled_own classes ts (is_shared b (mentions_in (events ts))) m b)
        go true i =
            rw i (ap (λ (q : Bool). reference (cond q HeapAllocated Captured) b.ident.id m.place.site.layer NONE)
            (set_by_end m.place.around b refl i z))
        go false i = rw (i, shared_is b k a) (own (is_shared b (mentions_in (events ts))))
          where
            own : (q : Bool) → reference (cond q HeapAllocated Local) b.ident.id m.place.site.layer (cond q b.place b.home.slot)
                ≡ settled_own classes ts q m b
            own true = refl
            own false = refl

-- no refusal, so none of 9 and 10
pub unnoted_of : (n : Noted) (o : Option Refusal) → or_second (refused_first n) o ≡ None → Unnoted n
unnoted_of n o e = record { nine = nine n.nine n.ten e; ten = ten n.nine n.ten e }
  where
    nine : (a b : Option ℕ) → or_second (nine_or a (ten_at b)) o ≡ None → a ≡ None
    nine None b q = refl
    nine (Some i) b q = absurd (none-some _ (sym q))

    ten : (a b : Option ℕ) → or_second (nine_or a (ten_at b)) o ≡ None → b ≡ None
    ten None None q = refl
    ten None (Some i) q = absurd (none-some _ (sym q))
    ten (Some i) b q = absurd (none-some _ (sym q))

zoned_all : (E : List Event) (l : List Event) → All (Zoned E) l → All (λ m. All (Zone E) m.place.around) (mentions_in l)
zoned_all E [] a = tt
zoned_all E (enters b sc ∷ l) a = zoned_all E l a.1
zoned_all E (mentions m ∷ l) a = (a.0, zoned_all E l a.1)
zoned_all E (ends i xs sc ∷ l) a = zoned_all E l a.1

pub binding_settled : BindingSettled
unfolding events
binding_settled classes rs ts a d =
    let R = (settled classes ts).facts.rows in
    let n = a.accepted.num in
    let told = settled_tells classes ts n a.accepted.few d (unnoted_of (fresh classes ts).noted (settled classes ts).noted.second a.not_refused) in
    let placed = placed-all (levels ts) 0 ts n top tt (λ i l u. omega arith) in
    let sound = all_map (Placed (levels ts) 0 (0 + sizes ts)) (Sound (levels ts)) (λ n q. q.scope) (mentions_in (events ts))
    (each_all _ (events ts) (each_mention _ _ (events ts) placed)) in
    let zoned = zoned_all (events ts) (events ts) (script_bounds ts n).zoned in
    record {
      mentioned = λ before after m e.
          let here : (Q : Mention → Type 0) → All Q (mentions_in (events ts)) → Q m = λ Q q. (all_right Q before (m ∷ after) (subst (All Q) e q)).0 in
          told_refers classes ts R before after m e (meant m) refl (find-all m.place.scope (here (Sound (levels ts)) sound) m.ident.name) sound
          (here _ zoned) (here _ (told-all classes ts R (events ts) told));
      bound = told-bound classes ts R (events ts) told (each_binder _ _ (events ts) placed) sound;
    }
