-- The records at top level are listed in a table, as the pass comes to each record.
use Prim.Native.Nat.{ℕ, suc, ◌+◌, ◌≤◌, ◌<◌}
use mathlib.Core.List.{List, [], ◌∷◌, ◌++◌}
use mathlib.Core.Bool.{Bool, true, false, cond}
use mathlib.Core.Logic.{◌⊎◌, inl, inr}
use mathlib.Core.Path.{◌≡◌, refl, ap, sym, ◌∙◌}
use native.Mathlib.Omega.{arith}
use native.Mathlib.Decide.{ℕ_discrete}
use borrow.Author.Tests.{ne_eqb}
use lib.Dec.{eqb}
use lib.ListN.{length, get_or, take, drop, set, length-set, length-append, drop_of_length-le}
use lib.Seq.{take-set-le, take-suc-set, append_snoc, set_split, length-take-le, get_or-set_same, get_or-set_other, drop-set-lt, drop-cons}
use Rattle.tree.specs.Record.{Record, records, blank, nth}
use Rattle.tree.specs.Place.{Open, after}
use Rattle.tree.specs.Check.{refusal}
use Rattle.checks.specs.Private.Order.{from3}
use Rattle.checks.specs.Leaves.{at_top, tops_in, Stores, Leaves}
use Rattle.tree.specs.Starts.{StartsWith, TellsStarts}
use Rattle.checks.proofs.Tops.{top-starts}
use Rattle.checks.proofs.Order.{number_in, late}

-- The records from record i on: the next is a start where no record is open, or there is none left
module _ (l : List Record) (d : Record) (i : ℕ) (s : List Open) where
  tops_next : i < length l → tops_in s i (drop i l) ≡ at_top s i (tops_in (after s (get_or l i d)) (i + 1) (drop (i + 1) l))
  unfolding tops_in
  tops_next h =
      let z : suc i ≡ i + 1 = omega arith in
      ap (tops_in s i) (drop-cons l i d h) ∙ ap (λ (k : ℕ). at_top s i (tops_in (after s (get_or l i d)) (i + 1) (drop k l))) z

  tops_end : length l ≤ i → tops_in s i (drop i l) ≡ i ∷ []
  unfolding tops_in
  tops_end h = ap (tops_in s i) (drop_of_length-le l h)

-- at record i, where s is open, the table has all those before: so many
pub record Listed (rs tops : List ℕ) (top i : ℕ) (s : List Open) : Type 0 where
  pub within : i ≤ length (records rs)
  pub room : length (records rs) < length tops
  pub few : top ≤ i
  pub is : tops_in [] 0 (records rs) ≡ take top tops ++ tops_in s i (drop i (records rs))

pub list_begin : (rs tops : List ℕ) → length (records rs) < length tops → Listed rs tops 0 0 []
list_begin rs tops h = record { within = omega arith; room = h; few = omega arith; is = refl }

-- what is stored is kept if no record is open
stored : (s : List Open) (tops l : List ℕ) (top i : ℕ) → top < length tops → take top tops ++ at_top s i l ≡ take (top + cond (eqb (length s) 0) 1 0) (set tops top i) ++ l
unfolding at_top
stored [] tops l top i h =
    let z : suc top ≡ top + 1 = omega arith in
    sym (append_snoc (take top tops) i l)
    ∙ ap (λ (m : List ℕ). m ++ l) (sym (take-suc-set tops top i h))
    ∙ ap (λ (k : ℕ). take k (set tops top i) ++ l) z
stored (o ∷ s) tops l top i h =
    let z : top ≡ top + cond (eqb (suc (length s)) 0) 1 0 = rw (ne_eqb (suc (length s)) 0 (λ e. omega arith)) (omega arith) in
    ap (λ (m : List ℕ). m ++ l) (sym (take-set-le top tops top i (omega arith)))
    ∙ ap (λ (k : ℕ). take k (set tops top i) ++ l) z

pub one_listed : (b : Bool) → cond b 1 0 ≤ 1
one_listed true = omega arith
one_listed false = omega arith

module _ {rs tops : List ℕ} {top i : ℕ} {s : List Open} (a : Listed rs tops top i s) where
  pub list-next : i < length (records rs) → Listed rs (set tops top i) (top + cond (eqb (length s) 0) 1 0) (i + 1) (after s (nth rs i))
  list-next h = record {
    within = omega arith;
    room = omega (arith, a.room, length-set tops top i);
    few = omega (arith, a.few, one_listed (eqb (length s) 0));
    is = a.is ∙ ap (λ (m : List ℕ). take top tops ++ m) (tops_next (records rs) blank i s h) ∙ stored s tops _ top i (omega (arith, a.room, a.few));
  }

  -- after them all the table is ended by their number
  pub list-end : {n : ℕ} → n ≡ length (records rs) → n ≤ i → StartsWith (set tops top n) (tops_in [] 0 (records rs))
  list-end {n} e h =
      let z : i ≡ n = omega (arith, a.within) in
      record {
        rest = drop (suc top) tops;
        is =
            set_split tops top n (omega (arith, a.room, a.few, a.within))
            ∙ sym (append_snoc (take top tops) n (drop (suc top) tops))
            ∙ ap (λ (m : List ℕ). m ++ drop (suc top) tops) (sym (a.is ∙ ap (λ (m : List ℕ). take top tops ++ m) (tops_end (records rs) blank i s (omega arith) ∙ ap (λ (k : ℕ). k ∷ []) z)));
      }

-- What is stored meanwhile: `before` is the table at the start, and so many starts are listed

some_tops : (s : List Open) (i : ℕ) (l : List Record) → 1 ≤ length (tops_in s i l)
unfolding tops_in at_top
some_tops s i [] = omega arith
some_tops [] i (r ∷ l) = omega arith
some_tops (o ∷ s) i (r ∷ l) = some_tops (after (o ∷ s) r) (i + 1) l

-- the list of starts goes on
pub more_tops : {rs tops : List ℕ} {top i : ℕ} {s : List Open} → Listed rs tops top i s → top < length (tops_in [] 0 (records rs))
more_tops {rs} {tops} {top} {i} {s} a =
    let later = tops_in s i (drop i (records rs)) in
    let few : top ≤ length tops = omega (arith, a.room, a.few, a.within) in
    omega (arith, ap length a.is, length-append (take top tops) later, length-take-le top tops few, some_tops s i (drop i (records rs)))

pub record Storing (rs before tops : List ℕ) (top : ℕ) : Type 0 where
  pub long : length tops ≡ length before
  pub rest : (n : ℕ) → top < n → drop n tops ≡ drop n before
  pub small : (k : ℕ) → (get_or tops k 0 ≡ get_or before k 0) ⊎ (get_or tops k 0 ≤ length (records rs))

pub store_begin : (rs tops : List ℕ) (top : ℕ) → Storing rs tops tops top
store_begin rs tops top = record { long = refl; rest = λ n h. refl; small = λ k. inl refl }

module _ {rs before tops : List ℕ} {top : ℕ} (a : Storing rs before tops top) where
  pub store_later : {top' : ℕ} → top ≤ top' → Storing rs before tops top'
  store_later h = record { long = a.long; rest = λ n g. a.rest n (omega arith); small = a.small }

  module _ {v : ℕ} (h : top < length tops) (g : v ≤ length (records rs)) where
    small_at : (k : ℕ) → Dec (k ≡ top) → (get_or (set tops top v) k 0 ≡ get_or before k 0) ⊎ (get_or (set tops top v) k 0 ≤ length (records rs))
    small_at k (yes e) = inr (rw (e, get_or-set_same tops top v 0 h) g)
    small_at k (no n) = rw (get_or-set_other tops top k v 0 n) (a.small k)

    pub store_one : Storing rs before (set tops top v) top
    store_one = record {
      long = length-set tops top v ∙ a.long;
      rest = λ n z. drop-set-lt n tops top v z ∙ a.rest n z;
      small = λ k. small_at k (ℕ_discrete k top);
    }

  pub stores : top < length (tops_in [] 0 (records rs)) → Stores rs before tops
  stores h = record { long = a.long; rest = a.rest _ h; small = a.small }

-- What the checks leave

pub leaves_all : {N : ℕ} {rs tops : List ℕ} → Leaves N rs tops tops
leaves_all {rs = rs} {tops} = record {
  stored = record { long = refl; rest = refl; small = λ k. inl refl };
  early = λ r e h. refl;
  short = λ h. refl;
}

pub leaves_stored : {N : ℕ} {rs tops tops' : List ℕ} → refusal N rs ≡ from3 N rs → length (records rs) < length tops → Stores rs tops tops' → Leaves N rs tops tops'
leaves_stored {N} {rs} e h a = record {
  stored = a;
  early = λ r f g. absurd (omega (arith, late N rs, ap number_in (sym e ∙ f)));
  short = λ g. absurd (omega arith);
}

-- the records at top level are where the trees start
pub list-told : {N : ℕ} {rs tops : List ℕ} → StartsWith tops (tops_in [] 0 (records rs)) → TellsStarts N rs tops
list-told a = record { is = λ ts h. rw (← top-starts h) a }
