-- Chains of the records whose ids share a bucket: check 8 compares an id along its chain alone. A link is a record counted from 1, and 0
-- ends a chain.
use Rattle.std.specs.Prelude.{ℕ, ◌-◌, ◌*◌, ◌/◌, ◌%◌, ◌≤◌, ◌<◌, List, ◌≡◌, length, get_or}
use Rattle.tree.specs.Record.{records, nth}
use Rattle.tree.specs.Check.{member}
use Rattle.scans.specs.Private.Seen.{seen}

-- of n buckets: any function of the id below n is right; this one spreads ids that have a common factor
unfoldable pub bucket_of : ℕ → ℕ → ℕ
bucket_of n id = id * 2654435761 / 1048576 % n

-- record k has an id of bucket b; 0 is none
pub record InBucket (n : ℕ) (rs : List ℕ) (b k : ℕ) : Type 0 where
  pub given : (nth rs k).id ≡ 0 → ⊥
  pub bucket : bucket_of n (nth rs k).id ≡ b

-- p is the link to the newest of the first i records that has an id of bucket b: every id of the bucket that stands among the first i
-- stands among the first p
pub record Newest (n : ℕ) (rs : List ℕ) (b i p : ℕ) : Type 0 where
  pub within : p ≤ i
  pub last : 0 < p → InBucket n rs b (p - 1)
  pub all : (id : ℕ) → (id ≡ 0 → ⊥) → bucket_of n id ≡ b → member id (seen rs i) ≡ member id (seen rs p)

-- by record: the link to the newest earlier one of its bucket
abbrev pub Linked : ℕ → List ℕ → List ℕ → ℕ → Type 0
Linked n rs before i = (b k : ℕ) → k < i → InBucket n rs b k → Newest n rs b k (get_or before k 0)

-- a walk along the chain of the id's bucket, of however many, has come to the link p
pub record Chain (rs before : List ℕ) (id p : ℕ) : Type 0 where
  pub buckets : ℕ
  pub within : p ≤ length (records rs)
  pub places : length (records rs) ≤ length before
  pub last : 0 < p → InBucket buckets rs (bucket_of buckets id) (p - 1)
  pub links : Linked buckets rs before p

-- the first i records are chained, in a table of a link for each bucket, to the newest of it, and one of a link for each record
pub record Chains (rs newest before : List ℕ) (i : ℕ) : Type 0 where
  pub buckets : 0 < length newest
  pub places : length (records rs) ≤ length before
  pub heads : (b : ℕ) → Newest (length newest) rs b i (get_or newest b 0)
  pub links : Linked (length newest) rs before i
