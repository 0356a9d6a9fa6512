-- The text for an input, from its counts.
use Rattle.std.specs.Prelude.{Option, None, Some, Result, Ok, Err}
use Rattle.std.proofs.lemmas.Option.{none-some}
use Prim.Native.Nat.{ℕ, ◌*◌, ◌%◌, ◌≤◌, ◌<◌}
use mathlib.Core.Bool.{Bool, true, false, ◌||◌, true≢false}
use mathlib.Core.List.{List}
use mathlib.Core.Logic.{inl, inr, ⊎_elim}
use mathlib.Core.Path.{◌≡◌, refl, ap, sym, subst, ◌∙◌}
use native.Mathlib.Omega.{arith}
use borrow.Author.Tests.{lt-ltb, eq-eqb}
use lib.Dec.{ltb}
use lib.ListN.{length, take}
use Rattle.tree.specs.Record.{Record, width, numbers, records}
use Rattle.tree.proofs.Laws.Tree.{whole_numbers}
use Rattle.tree.specs.Check.{Refusal, when, check1, check2, refusal}
use Rattle.tree.proofs.Laws.Acceptance.{accepted as acceptance, only}
use Rattle.pass.specs.Run.{Tables, zeros, lengths_fit}
use Rattle.printing.specs.Laws.Below.{below_or}
use Rattle.printing.specs.Puts.{Line}
use Rattle.printing.specs.Text.{refused_text, bad_text}
use Rattle.reading.specs.Held.{shown, Kept, Answers, is_bad, is_good, Finished}
use Rattle.reading.specs.Reading.{bad, good}
use Rattle.reading.specs.declared.reader.Reading.{Reading}
use Rattle.reading.specs.declared.reader.Counts.{Counts}
use Rattle.reading.specs.declared.reader.BadLine.{BadLine}
use Rattle.listing.specs.Listing.{records_most, classes_length, text_length, all_fit, Shows, unfit, too_many, refused, accepted, Prints, bad_line, shows}
use Rattle.listing.specs.Laws.Fits.{fits}
use Rattle.listing.specs.Left.{Left, Leaves}
use Rattle.listing.specs.Answered.{Gives, FreshIn, Many, Counted, Few, InputIn, Told, Answered}
use Rattle.listing.specs.Answered as counted
use Rattle.listing.proofs.Tables.{class_room, record_room}

-- above 1,024 names

either : (b : Bool) → when (b || true) 0 ≡ Some 0
either true = refl
either false = refl

names-refused : (N : ℕ) (rs : List Record) → classes_length < N → refusal N (numbers rs) ≡ Some (record { number = 2; at = 0 })
unfolding refusal check1 check2
names-refused N rs h =
    rw (
      refusal,
      check1,
      check2,
      eq-eqb (length (numbers rs) % width) 0 (whole_numbers rs),
      lt-ltb classes_length N h,
      either (ltb 4096 (length (records (numbers rs)))),
    )

-- By the checks

many_in : {names many : ℕ} {b : Bool} → Counted names many b → b ≡ true → Many names many
many_in (counted.too_many m) e = m
many_in (counted.not-many g h) e = absurd (true≢false (sym e))

few_not : {names many : ℕ} {T R : List ℕ} {t : Tables} → Many names many → Few T R t names many → ⊥
few_not m w = ⊎_elim (λ g. omega (arith, w.records)) (λ g. omega (arith, w.names)) m

pub lengths_in : (T R : List ℕ) (t : Tables) {b : Bool} → b ≡ all_fit T R t → b ≡ true → lengths_fit t ≡ true
lengths_in T R t e f = (fits T R t (sym e ∙ f)).tables

module _ {T R : List ℕ} {t : Tables} {b : Bool} (e : b ≡ all_fit T R t) where
  pub few : {names many : ℕ} {k : Bool} → b ≡ true → Counted names many k → k ≡ false → Few T R t names many
  few f (counted.too_many m) g = absurd (true≢false g)
  few f (counted.not-many i j) g = record { fit = sym e ∙ f; names = j; records = i }

  module _ {names many : ℕ} {d : List ℕ} {n : ℕ} where
    pub unfit_in : b ≡ false → Line (refused_text 1 0) d n → n ≤ length d → InputIn names many T R t t d n
    unfit_in f v h = record {
      unfit = λ g. record { text = v.text; tables = refl };
      large = λ g m. absurd (true≢false (sym g ∙ sym e ∙ f));
      run = λ w. absurd (true≢false (sym w.fit ∙ sym e ∙ f));
      inside = h;
    }

    pub large_in : {t' : Tables} {k : Bool} → b ≡ true → Counted names many k → k ≡ true → t' ≡ zeros → Line (refused_text 2 0) d n → n ≤ length d
        → InputIn names many T R t t' d n
    large_in f m g z v h = record {
      unfit = λ i. absurd (true≢false (sym f ∙ e ∙ i));
      large = λ i j. record { text = v.text; tables = z };
      run = λ w. absurd (few_not (many_in m g) w);
      inside = h;
    }

pub run_in : {names many : ℕ} {T R d : List ℕ} {t t' : Tables} {n : ℕ} → Few T R t names many → FreshIn (take names T) (take (width * many) R) t' d n
    → InputIn names many T R t t' d n
run_in w v = record {
  unfit = λ f. absurd (true≢false (sym w.fit ∙ f));
  large = λ f m. absurd (few_not m w);
  run = λ x. v;
  inside = v.inside;
}

-- What the text and the tables are of classes cs and records rs, which the tables T and R hold

module _ {T R d : List ℕ} {t t' : Tables} {names many n : ℕ} (v : InputIn names many T R t t' d n) (cs : List ℕ) (rs : List Record) (c : names ≡ length cs)
    (r : many ≡ shown (length rs)) (k : Kept cs rs T R) where
  over : all_fit T R t ≡ true → records_most < length rs → Gives (refused_text 2 0) zeros (take n d) t'
  over f h = v.large f (inl (omega arith))

  named : all_fit T R t ≡ true → classes_length < length cs → Gives (refused_text 2 0) zeros (take n d) t'
  named f h = v.large f (inr (omega arith))

  run_of : all_fit T R t ≡ true → length rs ≤ records_most → length cs ≤ classes_length → FreshIn cs (numbers rs) t' d n
  run_of f h g =
      let w : Few T R t names many = record { fit = f; names = omega arith; records = omega arith } in
      let m : width * many ≡ width * length rs = omega (arith, w.records) in
      let p : take names T ≡ cs = ap (λ (i : ℕ). take i T) c ∙ k.classes (omega (arith, class_room w)) in
      let q : take (width * many) R ≡ numbers rs = ap (λ (i : ℕ). take i R) m ∙ k.records (omega (arith, record_room w)) in
      rw (p, q) at (v.run w)

  input_shows : Shows (all_fit T R t) cs rs (take n d)
  input_shows = go (all_fit T R t) refl
    where
      by_refusal : (f : all_fit T R t ≡ true) → length rs ≤ records_most → FreshIn cs (numbers rs) t' d n → (o : Option Refusal) → refusal (length cs) (numbers rs) ≡ o
          → Shows (all_fit T R t) cs rs (take n d)
      by_refusal f h x (Some a) e = subst (Shows (all_fit T R t) cs rs) (sym (x.refused a e).text) (refused f h e)
      by_refusal f h x None e =
          let (ts, a) = acceptance (length cs) (numbers rs) e in
          subst (Shows (all_fit T R t) cs rs) (sym (x.accepted ts a).text) (accepted f h a)

      go : (b : Bool) → all_fit T R t ≡ b → Shows (all_fit T R t) cs rs (take n d)
      go false f = subst (Shows (all_fit T R t) cs rs) (sym (v.unfit f).text) (unfit f)
      go true f =
          ⊎_elim (λ h. subst (Shows (all_fit T R t) cs rs) (sym (over f h).text) (too_many f h))
          (λ h.
          ⊎_elim (λ g. subst (Shows (all_fit T R t) cs rs) (sym (named f g).text) (refused f h (names-refused (length cs) rs g)))
          (λ g. by_refusal f h (run_of f h g) (refusal (length cs) (numbers rs)) refl)
          (below_or classes_length (length cs)))
          (below_or records_most (length rs))

  input-left : Left (all_fit T R t) cs rs t t'
  input-left = record {
    unfit = λ f. (v.unfit f).tables;
    too_many = λ f h. (over f h).tables;
    refused = λ f h a e. ⊎_elim (λ g. (named f g).tables) (λ g. ((run_of f h g).refused a e).tables) (below_or classes_length (length cs));
    accepted = λ f h ts a.
        ⊎_elim (λ g. absurd (none-some _ (sym (sym (names-refused (length cs) rs g) ∙ only (length cs) (numbers rs) ts a)))) (λ g. ((run_of f h g).accepted ts a).tables)
        (below_or classes_length (length cs));
  }

-- The bytes

never : {n : ℕ} {cs : List ℕ} {rs : List Record} {P : Type 0} → bad n ≡ good cs rs → P
never e = let z : ◌≡◌ {A = ℕ} 0 1 = cc in absurd (omega arith)

module _ (b T R d : List ℕ) (t t' : Tables) (n : ℕ) where
  told_prints : {a : Result Counts BadLine} → Answers b T R a → Told a T R t t' d n → Prints (all_fit T R t) b (take n d)
  told_prints (is_bad m e q) v = subst (Prints (all_fit T R t) b) (sym (v.text ∙ ap bad_text q)) (bad_line e)
  told_prints (is_good cs rs e p q k) v = shows e (input_shows v cs rs p q k)

  told_leaves : {a : Result Counts BadLine} → Answers b T R a → Told a T R t t' d n → Leaves (all_fit T R t) b t t'
  told_leaves (is_bad m e q) v = record { bad_line = λ i f. v.tables; good_input = λ cs rs f. never (sym e ∙ f) }
  told_leaves (is_good cs rs e p q k) v = record {
    bad_line = λ i f. never (sym f ∙ e);
    good_input = λ ds qs f.
        let x : cs ≡ ds = cc in
        let y : rs ≡ qs = cc in
        rw (x, y) at (input-left v cs rs p q k);
  }

module _ {r : Reading} {a : Result Counts BadLine} {T R d d' : List ℕ} {t t' : Tables} {n : ℕ} (f : Finished r a) (room : text_length ≤ length d) (l : length d' ≡ length d) where
  answered : Told a T R t t' d' n → n ≤ length d' → Answered r T R t d t' d' n
  answered v h = record {
    is = λ g b L k. told_prints b T R d' t t' n (f.is b L T R k) v;
    leaves = λ g b L k. told_leaves b T R d' t t' n (f.is b L T R k) v;
    any = λ g. subst (λ (e : Result Counts BadLine). Told e T R t t' d' n) f.any v;
    cramped = λ g. absurd (omega arith);
    inside = h;
    long = l;
  }

  pub bad_answered : {k : BadLine} → a ≡ Err k → Line (bad_text k.0) d' n → t' ≡ t → Answered r T R t d t' d' n
  bad_answered e v z =
      answered (subst (λ (x : Result Counts BadLine). Told x T R t t' d' n) (sym e) (record { text = v.text; tables = z })) (omega (arith, v.short))

  pub good_answered : {c : Counts} {u : Tables} → a ≡ Ok c → InputIn c.classes c.records T R t u d' n → t' ≡ u → Answered r T R t d t' d' n
  good_answered {c} e v z =
      let w : InputIn c.classes c.records T R t t' d' n = rw z v in
      answered (subst (λ (x : Result Counts BadLine). Told x T R t t' d' n) (sym e) w) w.inside
