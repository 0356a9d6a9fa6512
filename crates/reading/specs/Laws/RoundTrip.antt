-- Reading gives back what was written, and a good reading was written so.
use Rattle.std.specs.Prelude.{ℕ, ◌+◌, ◌^◌, ◌≤◌, ◌<◌, Bool, true, false, ◌⊎◌, ◌≡◌, refl, eqb, length, Option, None, Some}
use mathlib.Core.List.{List, [], ◌∷◌, ◌++◌, append_assoc, append-nil}
use Rattle.std.proofs.Common.{inl, inr, ⊎_elim, ◌∙◌, arith, lt-ltb, le-ltb, eqb-true, length-append}
use Rattle.std.proofs.Math.Path.{ap, sym}
use Rattle.table.specs.Layout.{layout}
use Rattle.table.specs.Laws.Layout.{layout-append}
use Rattle.tree.specs.Record.{Record, put}
use Rattle.printing.specs.Laws.Below.{below_or}
use Rattle.printing.specs.Text.{LF, names_marks, class_marks, record_marks, names_line, class_line, record_line}
use Rattle.reading.specs.Reading.{
  digits,
  numbers_of,
  Said,
  nothing,
  says,
  differs,
  next,
  first,
  class,
  entry,
  with_line,
  State,
  state,
  with_byte,
  with_bytes,
  bad,
  good,
  ending,
  answer,
  read,
}
use Rattle.reading.specs.Laws.Line.{body, line-body, numbers_sound, numbers_complete, Parted, last, parted}
use Rattle.reading.specs.Input.{input, All, all_none, all_more, Byte, Narrow, Fits, Below, none_left, one_more_lem}
use Rattle.reading.specs.Laws.Input.{all_snoc}
use Rattle.reading.specs.Laws.Read.{line-class, line_record, class-fits, class-over, byte_end, byte_more, plain, Marks, no_mark, a_mark, reads-line}

-- The marks of the input hold no LF and start with no digit

names-marks : Marks names_marks
unfolding plain
names-marks = a_mark refl no_mark

class-marks : Marks class_marks
unfolding plain
class-marks = a_mark refl no_mark

record_marks_lem : Marks record_marks
unfolding plain
record_marks_lem = a_mark refl (a_mark refl (a_mark refl (a_mark refl (a_mark refl (a_mark refl no_mark)))))

names_parted : Parted names_marks
unfolding digits
names_parted = parted (λ t u. refl) last

class_parted : Parted class_marks
unfolding digits
class_parted = parted (λ t u. refl) last

record_parted : Parted record_marks
unfolding digits
record_parted =
    parted (λ t u. refl) (parted (λ t u. refl) (parted (λ t u. refl) (parted (λ t u. refl) (parted (λ t u. refl) (parted (λ t u. refl) last)))))

-- Written, then read

with_names_lem : (n : ℕ) → n < 2 ^ 32 → with_line nothing (body names_marks (n ∷ [])) ≡ says n [] []
unfolding with_line first
with_names_lem n h = ap first (numbers_complete names_marks (n ∷ []) names_parted (one_more_lem h none_left))

with_class : (n : ℕ) (cs : List ℕ) (rs : List Record) (c : ℕ) → length cs < n → c < 256
    → with_line (says n cs rs) (body class_marks (c ∷ [])) ≡ says n (cs ++ (c ∷ [])) rs
with_class n cs rs c h g =
    line-class n cs rs (body class_marks (c ∷ [])) h
    ∙ ap (class n cs rs) (numbers_complete class_marks (c ∷ []) class_parted (one_more_lem (omega arith) none_left))
    ∙ class-fits n cs rs (c ∷ []) g

with_record : (n : ℕ) (cs : List ℕ) (rs : List Record) (r : Record) → n ≤ length cs → Narrow r
    → with_line (says n cs rs) (body record_marks (put r)) ≡ says n cs (rs ++ (r ∷ []))
unfolding entry
with_record n cs rs r h g =
    line_record n cs rs (body record_marks (put r)) h ∙ ap (entry n cs rs) (numbers_complete record_marks (put r) record_parted g)

reads-classes : (n : ℕ) (cs ds t : List ℕ) → length cs + length ds ≤ n → All Byte ds
    → with_bytes (state (says n cs []) []) (layout class_line ds ++ t) ≡ with_bytes (state (says n (cs ++ ds) []) []) t
unfolding layout
reads-classes n cs [] t h all_none = ap (λ (l : List ℕ). with_bytes (state (says n l []) []) t) (sym (append-nil cs))
reads-classes n cs (d ∷ ds) t h (all_more p q) =
    ap (with_bytes (state (says n cs []) [])) (append_assoc (class_line d) (layout class_line ds) t)
    ∙ reads-line (says n cs []) class_marks (d ∷ []) (layout class_line ds ++ t) class-marks
    ∙ ap (λ (s : Said). with_bytes (state s []) (layout class_line ds ++ t)) (with_class n cs [] d (omega arith) p)
    ∙ reads-classes n (cs ++ (d ∷ [])) ds t (omega (arith, length-append cs (d ∷ []))) q
    ∙ ap (λ (l : List ℕ). with_bytes (state (says n l []) []) t) (append_assoc cs (d ∷ []) ds)

reads-records : (n : ℕ) (cs : List ℕ) (rs qs : List Record) → n ≤ length cs → All Narrow qs
    → with_bytes (state (says n cs rs) []) (layout record_line qs) ≡ state (says n cs (rs ++ qs)) []
unfolding layout with_bytes
reads-records n cs rs [] h all_none = ap (λ (l : List Record). state (says n cs l) []) (sym (append-nil rs))
reads-records n cs rs (r ∷ qs) h (all_more p q) =
    reads-line (says n cs rs) record_marks (put r) (layout record_line qs) record_marks_lem
    ∙ ap (λ (s : Said). with_bytes (state s []) (layout record_line qs)) (with_record n cs rs r h p)
    ∙ reads-records n cs (rs ++ (r ∷ [])) qs h q
    ∙ ap (λ (l : List Record). state (says n cs l) []) (append_assoc rs (r ∷ []) qs)

reads-input : (cs : List ℕ) (rs : List Record) → Fits cs rs → with_bytes (state nothing []) (input cs rs) ≡ state (says (length cs) cs rs) []
unfolding input
reads-input cs rs f =
    reads-line nothing names_marks (length cs ∷ []) (layout class_line cs ++ layout record_line rs) names-marks
    ∙ ap (λ (s : Said). with_bytes (state s []) (layout class_line cs ++ layout record_line rs)) (with_names_lem (length cs) f.few)
    ∙ reads-classes (length cs) [] cs (layout record_line rs) (omega arith) f.classes
    ∙ reads-records (length cs) cs [] rs (omega arith) f.records

pub read-input : (cs : List ℕ) (rs : List Record) → Fits cs rs → read (input cs rs) ≡ good cs rs
unfolding read answer ending
read-input cs rs f =
    ap (λ (s : State). answer s.said s.rest) (reads-input cs rs f) ∙ rw (ending, le-ltb (length cs) (length cs) (omega arith))

-- Read, hence written so. What the lines so far say, and their bytes:

data Means : Said → List ℕ → Type 0 where
  m_nothing : Means nothing []
  m_says : {n : ℕ} {cs : List ℕ} {rs : List Record} {b : List ℕ} → n < 2 ^ 32 → length cs ≤ n → (length cs < n → rs ≡ []) → All Byte cs → All Narrow rs
      → b ≡ names_line n ++ (layout class_line cs ++ layout record_line rs) → Means (says n cs rs) b
  m_differs : {k : ℕ} {b : List ℕ} → Means (differs k) b

means_first : (l : List ℕ) (o : Option (List ℕ)) → numbers_of names_marks l ≡ o → Means (first o) (l ++ (LF ∷ []))
unfolding first layout
means_first l None e = m_differs
means_first l (Some ns) e = let p = numbers_sound names_marks l ns e in go p.below p.text
  where
    go : {ns : List ℕ} → Below names_marks ns → l ≡ body names_marks ns → Means (first (Some ns)) (l ++ (LF ∷ []))
    go (one_more_lem {n = n} h none_left) t =
        m_says {cs = []} h (omega arith) (λ q. refl) all_none all_none
        (ap (λ (m : List ℕ). m ++ (LF ∷ [])) t ∙ sym (line-body names_marks (n ∷ [])) ∙ sym (append-nil (names_line n)))

module _ (n : ℕ) (cs : List ℕ) (rs : List Record) (b : List ℕ) (small : n < 2 ^ 32) (bytes : All Byte cs) (narrow : All Narrow rs)
    (is : b ≡ names_line n ++ (layout class_line cs ++ layout record_line rs)) (l : List ℕ) where
  means_class : length cs < n → rs ≡ [] → (o : Option (List ℕ)) → numbers_of class_marks l ≡ o → Means (class n cs rs o) (b ++ (l ++ (LF ∷ [])))
  unfolding class layout
  means_class h z None e = m_differs
  means_class h z (Some ns) e = let p = numbers_sound class_marks l ns e in go p.below p.text
    where
      text : (c : ℕ) → l ≡ body class_marks (c ∷ []) → b ++ (l ++ (LF ∷ [])) ≡ names_line n ++ (layout class_line (cs ++ (c ∷ [])) ++ layout record_line rs)
      text c t =
          let k : l ++ (LF ∷ []) ≡ class_line c = ap (λ (m : List ℕ). m ++ (LF ∷ [])) t ∙ sym (line-body class_marks (c ∷ [])) in
          rw (k, is, z, layout-append)
          (ap (λ (m : List ℕ). (names_line n ++ m) ++ class_line c) (append-nil (layout class_line cs))
          ∙ append_assoc (names_line n) (layout class_line cs) (class_line c)
          ∙ ap (λ (m : List ℕ). names_line n ++ (layout class_line cs ++ m)) (sym (append-nil (class_line c)))
          ∙ ap (λ (m : List ℕ). names_line n ++ m) (sym (append-nil (layout class_line cs ++ (class_line c ++ [])))))

      go : {ns : List ℕ} → Below class_marks ns → l ≡ body class_marks ns → Means (class n cs rs (Some ns)) (b ++ (l ++ (LF ∷ [])))
      go (one_more_lem {n = c} g none_left) t =
          ⊎_elim
          (λ s.
          rw (class-fits n cs rs (c ∷ []) s)
          (m_says {cs = cs ++ (c ∷ [])} small (omega (arith, length-append cs (c ∷ []))) (λ q. z) (all_snoc bytes s) narrow (text c t)))
          (λ s. rw (class-over n cs rs (c ∷ []) s) m_differs)
          (below_or c 256)

  means_record : length cs ≡ n → (o : Option (List ℕ)) → numbers_of record_marks l ≡ o → Means (entry n cs rs o) (b ++ (l ++ (LF ∷ [])))
  unfolding entry layout
  means_record h None e = m_differs
  means_record h (Some ns) e = let p = numbers_sound record_marks l ns e in go p.below p.text
    where
      text : (r : Record) → l ≡ body record_marks (put r) → b ++ (l ++ (LF ∷ [])) ≡ names_line n ++ (layout class_line cs ++ layout record_line (rs ++ (r ∷ [])))
      text r t =
          let k : l ++ (LF ∷ []) ≡ record_line r = ap (λ (m : List ℕ). m ++ (LF ∷ [])) t ∙ sym (line-body record_marks (put r)) in
          let w : layout record_line (rs ++ (r ∷ [])) ≡ layout record_line rs ++ record_line r =
          layout-append record_line rs (r ∷ []) ∙ ap (λ (m : List ℕ). layout record_line rs ++ m) (append-nil (record_line r)) in
          rw (k, is, w)
          (append_assoc (names_line n) (layout class_line cs ++ layout record_line rs) (record_line r)
          ∙ ap (λ (m : List ℕ). names_line n ++ m) (append_assoc (layout class_line cs) (layout record_line rs) (record_line r)))

      go : {ns : List ℕ} → Below record_marks ns → l ≡ body record_marks ns → Means (entry n cs rs (Some ns)) (b ++ (l ++ (LF ∷ [])))
      go (one_more_lem {n = a₁} g₁ (one_more_lem {n = a₂} g₂ (one_more_lem {n = a₃} g₃ (one_more_lem {n = a₄} g₄ (one_more_lem {n = a₅} g₅ (one_more_lem {n = a₆} g₆ none_left)))))) t =
          m_says {cs = cs} small (omega arith) (λ q. absurd (omega arith)) bytes
          (all_snoc narrow (one_more_lem g₁ (one_more_lem g₂ (one_more_lem g₃ (one_more_lem g₄ (one_more_lem g₅ (one_more_lem g₆ none_left)))))))
          (text (record { form = a₁; id = a₂; name = a₃; count = a₄; from = a₅; to = a₆ }) t)

means_line : (s : Said) (b l : List ℕ) → Means s b → Means (with_line s l) (b ++ (l ++ (LF ∷ [])))
unfolding with_line
means_line nothing [] l m_nothing = means_first l (numbers_of names_marks l) refl
means_line nothing (x ∷ b) l m = elim m [ ]
means_line (says n cs rs) b l (m_says small most full bytes narrow is) =
    ⊎_elim
    (λ h. rw (line-class n cs rs l h) (means_class n cs rs b small bytes narrow is l h (full h) (numbers_of class_marks l) refl))
    (λ h. rw (line_record n cs rs l h) (means_record n cs rs b small bytes narrow is l (omega arith) (numbers_of record_marks l) refl))
    (below_or (length cs) n)
means_line (differs k) b l m_differs = m_differs

-- and the bytes of the line that has not ended
record Upto (s : State) (b : List ℕ) : Type 0 where
  lines : List ℕ
  means : Means s.said lines
  all : b ≡ lines ++ s.rest

upto_byte : (s : State) (b : List ℕ) (x : ℕ) → Upto s b → Upto (with_byte s x) (b ++ (x ∷ []))
upto_byte s b x u = go (eqb x LF) refl
  where
    go : (e : Bool) → eqb x LF ≡ e → Upto (with_byte s x) (b ++ (x ∷ []))
    go true e =
        let q : x ≡ LF = eqb-true x LF e in
        rw (q, byte_end s)
        (record {
          lines = u.lines ++ (s.rest ++ (LF ∷ []));
          means = means_line s.said u.lines s.rest u.means;
          all = rw u.all (append_assoc u.lines s.rest (LF ∷ []) ∙ sym (append-nil (u.lines ++ (s.rest ++ (LF ∷ [])))));
        })
    go false e =
        rw (byte_more s x e)
        (record { lines = u.lines; means = u.means; all = rw u.all (append_assoc u.lines s.rest (x ∷ [])) })

upto_bytes : (t : List ℕ) (s : State) (b : List ℕ) → Upto s b → Upto (with_bytes s t) (b ++ t)
unfolding with_bytes
upto_bytes [] s b u = rw append-nil u
upto_bytes (x ∷ t) s b u = rw (append_assoc b (x ∷ []) t) at (upto_bytes t (with_byte s x) (b ++ (x ∷ [])) (upto_byte s b x u))

pub record Written (cs : List ℕ) (rs : List Record) (b : List ℕ) : Type 0 where
  pub fits : Fits cs rs
  pub text : b ≡ input cs rs

-- the answer of a state
answered : (s : Said) (l b : List ℕ) → Upto (state s l) b → (cs : List ℕ) (rs : List Record) → answer s l ≡ good cs rs → Written cs rs b
unfolding answer ending input
answered s (x ∷ l) b u cs rs e = let z : ◌≡◌ {A = ℕ} 0 1 = cc in absurd (omega arith)
answered nothing [] b u cs rs e = let z : ◌≡◌ {A = ℕ} 0 1 = cc in absurd (omega arith)
answered (differs k) [] b u cs rs e = let z : ◌≡◌ {A = ℕ} 0 1 = cc in absurd (omega arith)
answered (says n ds qs) [] b u cs rs e = go u.lines u.means (u.all ∙ append-nil u.lines) (below_or (length ds) n)
  where
    go : (ls : List ℕ) → Means (says n ds qs) ls → b ≡ ls → (length ds < n) ⊎ (n ≤ length ds) → Written cs rs b
    go ls m a (inl h) =
        let p : bad (next (says n ds qs)) ≡ good cs rs = rw (ending, lt-ltb (length ds) n h) at e in
        let z : ◌≡◌ {A = ℕ} 0 1 = cc in absurd (omega arith)
    go ls (m_says small most full bytes narrow is) a (inr h) =
        let p : good ds qs ≡ good cs rs = rw (ending, le-ltb (length ds) n h) at e in
        let q : ds ≡ cs = cc in
        let r : qs ≡ rs = cc in
        let k : n ≡ length ds = omega arith in
        rw (← q, ← r)
        (record {
          fits = record { few = omega arith; classes = bytes; records = narrow };
          text = a ∙ is ∙ ap (λ (i : ℕ). names_line i ++ (layout class_line ds ++ layout record_line qs)) k;
        })

pub input-read : (b cs : List ℕ) (rs : List Record) → read b ≡ good cs rs → Written cs rs b
unfolding read
input-read b cs rs e =
    let s = with_bytes (state nothing []) b in
    answered s.said s.rest b (upto_bytes b (state nothing []) [] (record { lines = []; means = m_nothing; all = refl })) cs rs e
