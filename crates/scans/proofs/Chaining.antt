-- Check 8's chains: a walk along one, and a record that is chained.
use Prim.Native.Nat.{ℕ, zero, suc, ◌+◌, ◌-◌, ◌≤◌, ◌<◌}
use mathlib.Core.List.{List, [], ◌∷◌}
use mathlib.Core.Bool.{Bool, cond}
use mathlib.Core.Path.{◌≡◌, refl, ap, sym, subst, ◌∙◌}
use native.Mathlib.Omega.{arith}
use native.Mathlib.Decide.{ℕ_discrete, dec_lt}
use borrow.Author.Tests.{eq-eqb, ne_eqb}
use lib.Dec.{eqb}
use lib.ListN.{length, get_or, set, length-set}
use lib.Seq.{get_or-set_same, get_or-set_other}
use Rattle.tree.specs.Record.{records, nth}
use Rattle.tree.specs.Check.{member}
use Rattle.scans.specs.Private.Seen.{seen}
use Rattle.scans.specs.Private.Chain.{bucket_of, InBucket, Newest, Linked, Chain, Chains}
use Rattle.scans.proofs.Repeated.{seen_miss, again}

-- before the first record there is none of any bucket
none_yet : (n : ℕ) (rs : List ℕ) (b : ℕ) → Newest n rs b 0 0
none_yet n rs b = record { within = omega arith; last = λ h. absurd (omega arith); all = λ id g e. refl }

-- The link to the newest of the first records starts a walk; each record on it gives the next link

module _ {n : ℕ} {rs before : List ℕ} {id i p : ℕ} (a : Newest n rs (bucket_of n id) i p) (h : i ≤ length (records rs)) where
  chain_from : length (records rs) ≤ length before → Linked n rs before i → Chain rs before id p
  chain_from g l = record {
    buckets = n;
    within = omega (arith, a.within);
    places = g;
    last = a.last;
    links = λ c k j. l c k (omega (arith, a.within));
  }

module _ {rs before : List ℕ} {id p q : ℕ} (a : Chain rs before id p) (h : 0 < p) (e : q ≡ get_or before (p - 1) 0) where
  next : let n = a.buckets in Newest n rs (bucket_of n id) (p - 1) q
  next = subst (Newest _ rs _ (p - 1)) (sym e) (a.links _ (p - 1) (omega arith) (a.last h))

  pub chain_less : q < p
  chain_less = omega (arith, next.within)

  pub chain_next : Chain rs before id q
  chain_next = chain_from next (omega (arith, a.within)) a.places (λ c k g. a.links c k (omega arith))

  pub chain_miss : (id ≡ 0 → ⊥) → ((nth rs (p - 1)).id ≡ id → ⊥) → member id (seen rs p) ≡ member id (seen rs q)
  chain_miss g m = let s : p ≡ suc (p - 1) = omega arith in seen_miss rs id s m ∙ next.all id g refl

-- One record more: the newest links of the buckets, and the links of the records

module _ {n : ℕ} {rs : List ℕ} {b i : ℕ} where
  newest_other : {p : ℕ} → Newest n rs b i p → (InBucket n rs b i → ⊥) → Newest n rs b (i + 1) p
  newest_other a o =
      let s : i + 1 ≡ suc i = omega arith in
      record {
        within = omega (arith, a.within);
        last = a.last;
        all = λ id g z. seen_miss rs id s (λ e. o (record { given = λ y. g (sym e ∙ y); bucket = ap (bucket_of n) e ∙ z })) ∙ a.all id g z;
      }

  newest_this : InBucket n rs b i → Newest n rs b (i + 1) (i + 1)
  newest_this o = let s : i ≡ i + 1 - 1 = omega arith in record { within = omega arith; last = λ h. subst (InBucket n rs b) s o; all = λ id g z. refl }

module _ (n : ℕ) (rs before : List ℕ) (i : ℕ) (a : Linked n rs before i) (m : (b : ℕ) → InBucket n rs b i → Newest n rs b i (get_or before i 0)) where
  linked_at : (b k : ℕ) → k < i + 1 → InBucket n rs b k → Dec (k < i) → Newest n rs b k (get_or before k 0)
  linked_at b k h o (yes g) = a b k g o
  linked_at b k h o (no g) = let z : i ≡ k = omega arith in subst (λ (j : ℕ). Newest n rs b j (get_or before j 0)) z (m b (subst (InBucket n rs b) (sym z) o))

  linked_more : Linked n rs before (i + 1)
  linked_more b k h o = linked_at b k h o (dec_lt k i)

module _ {rs newest before : List ℕ} {i : ℕ} (a : Chains rs newest before i) where
  abbrev n : ℕ
  n = length newest

  link_old : (x c k : ℕ) → k < i → InBucket n rs c k → Newest n rs c k (get_or (set before i x) k 0)
  link_old x c k h o = subst (Newest n rs c k) (sym (get_or-set_other before i k x 0 (λ z. omega arith))) (a.links c k h o)

  -- record i has no id, and its link is any
  chains_skip : (nth rs i).id ≡ 0 → (x : ℕ) → Chains rs newest (set before i x) (i + 1)
  chains_skip e x = record {
    buckets = a.buckets;
    places = omega (arith, a.places, length-set before i x);
    heads = λ b. newest_other (a.heads b) (λ o. o.given e);
    links = linked_more n rs (set before i x) i (link_old x) (λ b o. absurd (o.given e));
  }

  -- record i has an id, of bucket b
  module _ {id b : ℕ} (e : id ≡ (nth rs i).id) (g : id ≡ 0 → ⊥) (u : b ≡ bucket_of n id) where
    head : Newest n rs (bucket_of n id) i (get_or newest b 0)
    head = subst (Newest n rs (bucket_of n id) i) (ap (λ (c : ℕ). get_or newest c 0) (sym u)) (a.heads (bucket_of n id))

    here : InBucket n rs b i
    here = record { given = λ z. g (e ∙ z); bucket = ap (bucket_of n) (sym e) ∙ sym u }

    same_bucket : {c : ℕ} → InBucket n rs c i → b ≡ c
    same_bucket o = sym here.bucket ∙ o.bucket

    head_at : b < n → (c : ℕ) → Dec (c ≡ b) → Newest n rs c (i + 1) (get_or (set newest b (i + 1)) c 0)
    head_at h c (yes z) =
        let s : get_or (set newest b (i + 1)) c 0 ≡ i + 1 = ap (λ (d : ℕ). get_or (set newest b (i + 1)) d 0) z ∙ get_or-set_same newest b (i + 1) 0 h in
        subst (Newest n rs c (i + 1)) (sym s) (newest_this (subst (λ (d : ℕ). InBucket n rs d i) (sym z) here))
    head_at h c (no z) =
        subst (Newest n rs c (i + 1)) (sym (get_or-set_other newest b c (i + 1) 0 z)) (newest_other (a.heads c) (λ o. z (sym (same_bucket o))))

    link_new : i < length before → (c : ℕ) → InBucket n rs c i → Newest n rs c i (get_or (set before i (get_or newest b 0)) i 0)
    link_new h c o =
        let s = get_or-set_same before i (get_or newest b 0) 0 h ∙ ap (λ (d : ℕ). get_or newest d 0) (same_bucket o) in
        subst (Newest n rs c i) (sym s) (a.heads c)

    chains_add : b < n → i < length (records rs) → Chains rs (set newest b (i + 1)) (set before i (get_or newest b 0)) (i + 1)
    chains_add h j =
        let same : n ≡ length (set newest b (i + 1)) = sym (length-set newest b (i + 1)) in
        let linked = linked_more n rs (set before i (get_or newest b 0)) i (link_old (get_or newest b 0)) (link_new (omega (arith, a.places))) in
        record {
          buckets = omega arith;
          places = omega (arith, a.places, length-set before i (get_or newest b 0));
          heads = λ c. subst (λ (m : ℕ). Newest m rs c (i + 1) (get_or (set newest b (i + 1)) c 0)) same (head_at h c (ℕ_discrete c b));
          links = subst (λ (m : ℕ). Linked m rs (set before i (get_or newest b 0)) (i + 1)) same linked;
        }

-- Record i, with an id or with none: its walk starts at the link p, and its bucket's link is q after it

pub record Picked (rs newest before : List ℕ) (i id b p q : ℕ) : Type 0 where
  pub none : id ≡ 0 → p ≡ 0
  pub chain : Chain rs before id p
  pub along : {r : Bool} → r ≡ member id (seen rs p) → r ≡ again rs i
  pub within : q ≤ i + 1
  pub chained : Chains rs (set newest b q) (set before i p) (i + 1)

set_back : (l : List ℕ) (k : ℕ) → set l k (get_or l k 0) ≡ l
set_back [] k = refl
set_back (x ∷ l) zero = refl
set_back (x ∷ l) (suc k) = ap (x ∷◌) (set_back l k)

module _ {rs newest before : List ℕ} {i id b : ℕ} (a : Chains rs newest before i) (e : id ≡ (nth rs i).id) (u : b ≡ bucket_of (length newest) id)
    (h : b < length newest) (j : i < length (records rs)) where
  with_none : id ≡ 0 → Picked rs newest before i id b 0 (get_or newest b 0)
  with_none z = record {
    none = λ _. refl;
    chain = chain_from (none_yet (length newest) rs _) (omega arith) a.places (λ c k g. absurd (omega arith));
    along = λ s. s ∙ rw (← e, eq-eqb id 0 z);
    within = omega (arith, (a.heads b).within);
    chained = subst (λ (l : List ℕ). Chains rs l (set before i 0) (i + 1)) (sym (set_back newest b)) (chains_skip a (sym e ∙ z) 0);
  }

  with_id : (id ≡ 0 → ⊥) → Picked rs newest before i id b (get_or newest b 0) (i + 1)
  with_id g = record {
    none = λ z. absurd (g z);
    chain = chain_from (head a e g u) (omega arith) a.places a.links;
    along = λ s. s ∙ sym ((head a e g u).all id g refl) ∙ rw (← e, ne_eqb id 0 g);
    within = omega arith;
    chained = chains_add a e g u h j;
  }

  pub picked : Picked rs newest before i id b (cond (eqb id 0) 0 (get_or newest b 0)) (cond (eqb id 0) (get_or newest b 0) (i + 1))
  picked = either (ℕ_discrete id 0)
    where
      either : Dec (id ≡ 0) → Picked rs newest before i id b (cond (eqb id 0) 0 (get_or newest b 0)) (cond (eqb id 0) (get_or newest b 0) (i + 1))
      either (yes z) = rw (eq-eqb id 0 z) (with_none z)
      either (no g) = rw (ne_eqb id 0 g) (with_id g)
