-- Records that differ only in their positions are refused alike by the checks 1 to 8 and 16, or are those of trees that differ only there.
use Rattle.std.specs.Prelude.{ℕ, ◌+◌, ◌%◌, Bool, true, false, ◌&&◌, ◌||◌, ◌≡◌, length, Option, None, Some}
use mathlib.Core.List.{List, [], ◌∷◌, map, map-append}
use Rattle.std.proofs.Math.Bool.{not}
use Rattle.std.proofs.Math.Path.{refl, ap}
use Rattle.std.proofs.Common.{sym, ◌∙◌}
use Rattle.std.proofs.lemmas.List.{length-map}
use Rattle.std.proofs.Math.Dec.{eqb, ltb}
use Rattle.tree.specs.Record.{Record, width, records}
use Rattle.tree.specs.Form.{Form, form_of, fits_as, fits}
use Rattle.tree.specs.Place.{Open, after, Placed, placed, left}
use Rattle.tree.specs.First.{first}
use Rattle.tree.specs.Check.{when, repeated, check1, check2, check3, check4, check5, check6, check7, check8, refusal, check16, untested}
use Rattle.tree.specs.Tree.{Ident, Tree, Trees, ident, const, if, letin, define, lambda, sequence, call, set!, nil, cons, flat, flats, size, sizes, NumNames, Num, Nums, named, begins, ands, whens}
use Rattle.tree.proofs.Laws.Tree.{length_flat, length_flats}
use Rattle.tree.specs.Accepted.{Accepted}
use Rattle.tree.proofs.Laws.Acceptance.{holds}
use Rattle.tree.proofs.Laws.Unique.{unique_trees}
use Rattle.pass.specs.Bare.{bare_ident, bare, bares}
use Rattle.pass_laws.specs.Laws.Bare.Looks.{bare-many}
use Rattle.promises.specs.Promises.{bare_record, bare_records}

-- The checks

module _ {A : Type 0} (f : A → A) (test : A → Bool) (same : (a : A) → test (f a) ≡ test a) where
  first_same : (l : List A) → first test (map f l) ≡ first test l
  unfolding first
  first_same [] = refl
  first_same (a ∷ l) = rw (same a, first_same l)

bare-fits : (N : ℕ) (r : Record) → fits N (bare_record r) ≡ fits N r
unfolding fits
bare-fits N r = go (form_of r.form)
  where
    go : (o : Option Form) → fits_as N (bare_record r) o ≡ fits_as N r o
    go None = refl
    go (Some f) = refl

abbrev bare_placed : Placed → Placed
bare_placed p = record { of = bare_record p.of; nesting = p.nesting; is_name = p.is_name }

bare-placed : (s : List Open) (l : List Record) → placed s (map bare_record l) ≡ map bare_placed (placed s l)
unfolding placed after
bare-placed s [] = refl
bare-placed s (r ∷ l) = rw (bare-placed (after s r) l)

bare-left : (s : List Open) (l : List Record) → left s (map bare_record l) ≡ left s l
unfolding left after
bare-left s [] = refl
bare-left s (r ∷ l) = bare-left (after s r) l

bare-repeated : (seen : List ℕ) (l : List Record) → repeated seen (map bare_record l) ≡ repeated seen l
unfolding repeated
bare-repeated seen [] = refl
bare-repeated seen (r ∷ l) = rw (bare-repeated (r.id ∷ seen) l)

module _ (N : ℕ) (rs qs : List ℕ) (r : length rs % width ≡ 0) (q : length qs % width ≡ 0) (h : bare_records rs ≡ bare_records qs) where
  -- what does not consult positions
  by_records : {B : Type 0} (f : List Record → B) → ((l : List Record) → f (map bare_record l) ≡ f l) → f (records rs) ≡ f (records qs)
  by_records f k = sym (k (records rs)) ∙ ap f h ∙ k (records qs)

  same1 : check1 N rs ≡ check1 N qs
  unfolding check1
  same1 = rw (r, q)

  same2 : check2 N rs ≡ check2 N qs
  unfolding check2
  same2 = by_records (λ l. when (ltb 4096 (length l) || ltb 1024 N) 0) (λ l. rw length-map)

  same3 : check3 N rs ≡ check3 N qs
  unfolding check3
  same3 = by_records (first (λ p. not (fits N p))) (first_same bare_record (λ p. not (fits N p)) (λ p. ap not (bare-fits N p)))

  same4 : check4 N rs ≡ check4 N qs
  unfolding check4
  same4 = by_records (λ l. when (not (eqb (length (left [] l)) 0)) (length l)) (λ l. rw (bare-left, length-map))

  by_places : (test : Placed → Bool) → ((p : Placed) → test (bare_placed p) ≡ test p)
      → first test (placed [] (records rs)) ≡ first test (placed [] (records qs))
  by_places test k = by_records (λ l. first test (placed [] l)) (λ l. ap (first test) (bare-placed [] l) ∙ first_same bare_placed test k (placed [] l))

  same5 : check5 N rs ≡ check5 N qs
  unfolding check5
  same5 = by_places (λ p. ltb 64 p.nesting) (λ p. refl)

  same6 : check6 N rs ≡ check6 N qs
  unfolding check6
  same6 = by_places (λ p. p.is_name && not (eqb p.of.form 1)) (λ p. refl)

  same7 : check7 N rs ≡ check7 N qs
  unfolding check7
  same7 = by_records (first (λ p. eqb p.form 8 && eqb p.count 0)) (first_same bare_record (λ p. eqb p.form 8 && eqb p.count 0) (λ p. refl))

  same16 : check16 N rs ≡ check16 N qs
  unfolding check16
  same16 = by_records (first untested) (first_same bare_record untested (λ p. refl))

  same8 : check8 N rs ≡ check8 N qs
  unfolding check8
  same8 = by_records (repeated []) (bare-repeated [])

  pub same_refusal : refusal N rs ≡ refusal N qs
  unfolding refusal
  same_refusal = rw (same1, same2, same3, same4, same5, same6, same7, same16, same8)

-- The trees

bare-names : (xs : List Ident) → map named (map bare_ident xs) ≡ map bare_record (map named xs)
bare-names [] = refl
bare-names (x ∷ xs) = rw (bare-names xs)

mutual
  unfolding flat bare

  bare_flat : (t : Tree) → flat (bare t) ≡ map bare_record (flat t)
  bare_flat (ident x) = refl
  bare_flat (const n q) = refl
  bare_flat (if n a b c) = simp (map-append, bare_flat a, bare_flat b, bare_flat c)
  bare_flat (letin n xs es b) = simp (map-append, length-map, bare-names xs, bare_flats es, bare_flat b)
  bare_flat (define n x b) = simp (bare_flat b)
  bare_flat (lambda n xs b) = simp (map-append, length-map, bare-names xs, bare_flat b)
  bare_flat (sequence (begins n) es) = simp (bare-many es, bare_flats es)
  bare_flat (sequence (ands n) es) = simp (bare-many es, bare_flats es)
  bare_flat (sequence (whens true n) es) = simp (bare-many es, bare_flats es)
  bare_flat (sequence (whens false n) es) = simp (bare-many es, bare_flats es)
  bare_flat (call n h es) = simp (map-append, bare-many es, bare_flat h, bare_flats es)
  bare_flat (set! n x e) = simp (bare_flat e)

  bare_flats : (ts : Trees) → flats (bares ts) ≡ map bare_record (flats ts)
  bare_flats nil = refl
  bare_flats (cons t ts) = simp (map-append, bare_flat t, bare_flats ts)

bare-size : (t : Tree) → size (bare t) ≡ size t
bare-size t = sym (length_flat (bare t)) ∙ ap length (bare_flat t) ∙ length-map (flat t) bare_record ∙ length_flat t

bare_sizes : (ts : Trees) → sizes (bares ts) ≡ sizes ts
bare_sizes ts = sym (length_flats (bares ts)) ∙ ap length (bare_flats ts) ∙ length-map (flats ts) bare_record ∙ length_flats ts

num_names : (i : ℕ) (xs : List Ident) → NumNames i xs → NumNames i (map bare_ident xs)
unfolding NumNames
num_names i [] n = tt
num_names i (x ∷ xs) n = (n.0, num_names (i + 1) xs n.1)

mutual
  unfolding Num bare

  bare_num : (i : ℕ) (t : Tree) → Num i t → Num i (bare t)
  bare_num i (ident x) n = n
  bare_num i (const m q) n = n
  bare_num i (if m a b c) n = simp (bare-size a, bare-size b) (n.0, bare_num _ a n.1, bare_num _ b n.2, bare_num _ c n.3)
  bare_num i (letin m xs es b) n =
      simp (length-map, bare-many es, bare_sizes es) (n.0, n.1, num_names _ xs n.2, bare_nums _ es n.3, bare_num _ b n.4)
  bare_num i (define m x b) n = (n.0, n.1, bare_num _ b n.2)
  bare_num i (lambda m xs b) n = simp length-map (n.0, num_names _ xs n.1, bare_num _ b n.2)
  bare_num i (sequence (begins m) es) n = (n.0, bare_nums _ es n.1, tt)
  bare_num i (sequence (ands m) es) n = (n.0, bare_nums _ es n.1, tt)
  bare_num i (sequence (whens q m) es) n = (n.0, bare_nums _ es n.1, rw (bare-many es) n.2)
  bare_num i (call m h es) n = simp (bare-size h) (n.0, bare_num _ h n.1, bare_nums _ es n.2)
  bare_num i (set! m x e) n = (n.0, n.1, bare_num _ e n.2)

  bare_nums : (i : ℕ) (ts : Trees) → Nums i ts → Nums i (bares ts)
  bare_nums i nil n = tt
  bare_nums i (cons t ts) n = simp (bare-size t) (bare_num i t n.0, bare_nums _ ts n.1)

pub same_trees : {N : ℕ} {rs qs : List ℕ} {ts us : Trees} → Accepted N rs ts → Accepted N qs us → bare_records rs ≡ bare_records qs → bares ts ≡ bares us
same_trees {ts = ts} {us = us} a b h =
    unique_trees (bares ts) (bares us) 0 (bare_nums 0 ts a.num) (bare_nums 0 us b.num)
    (bare_flats ts ∙ ap (map bare_record) (sym (holds a)) ∙ h ∙ ap (map bare_record) (holds b) ∙ sym (bare_flats us))
