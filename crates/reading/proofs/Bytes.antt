-- Bytes more: what the state then says.
use Rattle.std.specs.Prelude.{Option, None, Some, is_some, true, false}
use Prim.Native.Nat.{ℕ, ◌+◌, ◌≤◌, ◌<◌}
use mathlib.Core.List.{List, [], ◌∷◌, ◌++◌, append_assoc, append-nil}
use mathlib.Core.Path.{◌≡◌, refl, ap, sym, subst, ◌∙◌}
use native.Mathlib.Omega.{arith}
use native.Mathlib.Numerals.{add-one}
use borrow.Author.Tests.{ne_eqb}
use lib.ListN.{length, get_or, take, set, length-append, length-set}
use lib.Seq.{take-suc, take-suc-set, take_all}
use Rattle.printing.specs.Text.{LF}
use Rattle.reading.specs.Reading.{Said, next, with_line, State, state, with_byte, with_bytes, bad, read}
use Rattle.reading.specs.Laws.Read.{byte_end, byte_more}
use Rattle.reading.specs.Laws.Lost.{reached, reached_byte, differs_lost, long_lost}
use Rattle.reading.specs.declared.reader.Reading.{Reading}
use Rattle.reading.specs.Held.{shown, spoiled, Tied, tied_nothing, tied_says, Going, Holds, going, lost, Starts, Fed, Turned, turned, spoilt, Turns}
use Rattle.reading.specs.Leaves.{Spares, Same, Leaves}
use Rattle.reading.specs.Laws.Leaves.{between_none}
use Rattle.reading.proofs.Spared.{counted, spares_none, spares_then, spares_spoiled}

-- A line was bad, or none was

pub is_bad : {o : Option ℕ} → true ≡ is_some o → o ≡ None → ⊥
is_bad {o = None} h e = cc
is_bad {o = Some n} h e = cc

pub not-bad : {o : Option ℕ} → false ≡ is_some o → o ≡ None
not-bad {o = None} h = refl
not-bad {o = Some n} h = cc

-- What is known while the lines are good

pub tied_fine : {r : Reading} {T R : List ℕ} {s : Said} → Tied r T R s → r.bad ≡ None
tied_fine (tied_nothing h e) = e
tied_fine (tied_says v) = v.fine

pub tied_next : {r : Reading} {T R : List ℕ} {s : Said} → Tied r T R s → shown (r.lines + 1) ≡ shown (next s)
unfolding next
tied_next {r} (tied_nothing h e) = omega arith
tied_next {r} (tied_says v) = omega (arith, v.lines)

next-some : {r : Reading} {T R : List ℕ} {s : Said} → Tied r T R s → 0 < next s
unfolding next
next-some (tied_nothing h e) = omega arith
next-some (tied_says v) = omega arith

-- the state is as it was but for the line that has not ended
tied_as : {r : Reading} {T R : List ℕ} {s : Said} {n : ℕ} → Tied r T R s → Tied (counted r.bad r.lines r.names r.classes r.records n) T R s
tied_as (tied_nothing h e) = tied_nothing h e
tied_as (tied_says v) =
    tied_says
    (record {
      fine = v.fine;
      lines = v.lines;
      names = v.names;
      few = v.few;
      classes = v.classes;
      most = v.most;
      records = v.records;
      kept = v.kept;
    })

-- A state that is lost stays so; one that is not is not marked

lost_more : {r : Reading} {L T R : List ℕ} (b c : List ℕ) (n : ℕ) → 0 < n → r.bad ≡ Some (shown n) → ((t : List ℕ) → read (b ++ t) ≡ bad n) → Holds r (b ++ c) L T R
lost_more b c n p e k = lost n p e (λ t. ap read (append_assoc b c t) ∙ k (c ++ t))

leaves_none : {r : Reading} {L T R : List ℕ} → Leaves r L T R r L T R
leaves_none = record { long = refl; tables = spares_none; after_bad = λ h. record { state = refl; line = refl; classes = refl; records = refl } }

pub fed_lost : (r : Reading) (c L T R : List ℕ) → (r.bad ≡ None → ⊥) → Fed c r L T R r L T R
fed_lost r c L T R h = record { is = λ b x. go b x; leaves = leaves_none }
  where
    go : (b : List ℕ) → Holds r b L T R → Holds r (b ++ c) L T R
    go b (going g) = absurd (h (tied_fine g.tied))
    go b (lost n p e k) = lost_more b c n p e k

pub fed : (r : Reading) (c L T R : List ℕ) {q : Reading} {L' T' R' : List ℕ} → r.bad ≡ None → length L' ≡ length L → Spares r T R q T' R'
    → ((b : List ℕ) → Going r (reached b) L T R → Holds q (b ++ c) L' T' R') → Fed c r L T R q L' T' R'
fed r c L T R {q} {L'} {T'} {R'} h l k f = record { is = λ b x. go b x; leaves = record { long = l; tables = k; after_bad = λ n. absurd (n h) } }
  where
    go : (b : List ℕ) → Holds r b L T R → Holds q (b ++ c) L' T' R'
    go b (going g) = f b g
    go b (lost n p e k) = cc

-- One byte

module _ (r : Reading) (L T R : List ℕ) where
  -- an LF
  pub byte_line : (x : ℕ) {q : Reading} {L' T' R' : List ℕ} → x ≡ LF → r.bad ≡ None → L' ≡ L → Turns (take r.length L) r T R q T' R'
      → Fed (x ∷ []) r L T R q L' T' R'
  byte_line x {q} {L'} {T'} {R'} ex z k w =
      subst (λ (l : List ℕ). Fed (x ∷ []) r L T R q l T' R') (sym k) (fed r (x ∷ []) L T R z refl w.spares (λ b g. go b g (w.is (reached b).said g.tied)))
    where
      go : (b : List ℕ) → Going r (reached b) L T R → Turned (reached b).said (take r.length L) q T' R' → Holds q (b ++ (x ∷ [])) L T' R'
      go b g t =
          let a : take r.length L ≡ (reached b).rest = ap (λ (n : ℕ). take n L) g.many ∙ g.rest in
          let e : reached (b ++ (x ∷ [])) ≡ state (with_line (reached b).said (reached b).rest) [] =
          reached_byte b x ∙ ap (with_byte (reached b)) ex ∙ byte_end (reached b) in
          by_case b g e (subst (λ (l : List ℕ). Turned (reached b).said l q T' R') a t)
        where
          by_case : (b : List ℕ) → Going r (reached b) L T R → reached (b ++ (x ∷ [])) ≡ state (with_line (reached b).said (reached b).rest) []
              → Turned (reached b).said (reached b).rest q T' R' → Holds q (b ++ (x ∷ [])) L T' R'
          by_case b g e (turned n t) =
              going (subst (λ (s : State). Going q s L T' R') (sym e) (record { room = g.room; many = n; inside = omega arith; rest = refl; tied = t }))
          by_case b g e (spoilt n d) =
              lost (next (reached b).said) (next-some g.tied) n
              (λ t. differs_lost (b ++ (x ∷ [])) (next (reached b).said) [] t (e ∙ ap (λ (s : Said). state s []) d))

  -- no room for it
  pub byte_long : (x : ℕ) {q : Reading} → (x ≡ LF → ⊥) → r.bad ≡ None → r.length ≡ length L → q ≡ spoiled r → Fed (x ∷ []) r L T R q L T R
  byte_long x {q} nx z n eq =
      fed r (x ∷ []) L T R z refl (spares_spoiled eq)
      (λ b g.
      let e : reached (b ++ (x ∷ [])) ≡ state (reached b).said ((reached b).rest ++ (x ∷ [])) =
      reached_byte b x ∙ byte_more (reached b) x (ne_eqb x LF nx) in
      let l : 92 < length ((reached b).rest ++ (x ∷ [])) = omega (arith, length-append (reached b).rest (x ∷ []), g.room, g.many) in
      lost (next (reached b).said) (next-some g.tied) (ap (λ (y : Reading). y.bad) eq ∙ ap Some (tied_next g.tied))
      (λ t. long_lost (b ++ (x ∷ [])) (reached b).said ((reached b).rest ++ (x ∷ [])) t e l))

  -- it stands in the line
  pub byte_kept : (x : ℕ) → (x ≡ LF → ⊥) → r.bad ≡ None → r.length < length L
      → Fed (x ∷ []) r L T R (counted r.bad r.lines r.names r.classes r.records (r.length + 1)) (set L r.length x) T R
  byte_kept x nx z n =
      fed r (x ∷ []) L T R z (length-set L r.length x) (record { classes = between_none; records = between_none })
      (λ b g.
      let e : reached (b ++ (x ∷ [])) ≡ state (reached b).said ((reached b).rest ++ (x ∷ [])) =
      reached_byte b x ∙ byte_more (reached b) x (ne_eqb x LF nx) in
      let k : length ((reached b).rest ++ (x ∷ [])) ≡ r.length + 1 = length-append (reached b).rest (x ∷ []) ∙ omega (arith, g.many) in
      let a : take r.length L ≡ (reached b).rest = ap (λ (i : ℕ). take i L) g.many ∙ g.rest in
      going
      (subst (λ (s : State). Going (counted r.bad r.lines r.names r.classes r.records (r.length + 1)) s (set L r.length x) T R) (sym e)
      (record {
        room = omega (arith, g.room, length-set L r.length x);
        many = sym k;
        inside = omega (arith, length-set L r.length x);
        rest =
            ap (λ (i : ℕ). take i (set L r.length x)) (k ∙ add-one r.length)
            ∙ take-suc-set L r.length x n
            ∙ ap (λ (m : List ℕ). m ++ (x ∷ [])) a;
        tied = tied_as g.tied;
      })))

-- One part after another

pub fed_none : (r : Reading) (L T R : List ℕ) → Fed [] r L T R r L T R
fed_none r L T R = record { is = λ b h. subst (λ (c : List ℕ). Holds r c L T R) (sym (append-nil b)) h; leaves = leaves_none }

same_then : {r q p : Reading} {L T R L' T' R' L'' T'' R'' : List ℕ} → Same r L T R q L' T' R' → Same q L' T' R' p L'' T'' R'' → Same r L T R p L'' T'' R''
same_then v w = record {
  state = w.state ∙ v.state;
  line = w.line ∙ v.line;
  classes = w.classes ∙ v.classes;
  records = w.records ∙ v.records;
}

leaves_then : {r q p : Reading} {L T R L' T' R' L'' T'' R'' : List ℕ} → Leaves r L T R q L' T' R' → Leaves q L' T' R' p L'' T'' R'' → Leaves r L T R p L'' T'' R''
leaves_then v w = record {
  long = w.long ∙ v.long;
  tables = spares_then v.tables w.tables;
  after_bad = λ h.
      let s = v.after_bad h in same_then s (w.after_bad (λ z. h (sym (ap (λ (x : Reading). x.bad) s.state) ∙ z)));
}

pub fed_then : {c d : List ℕ} {r q p : Reading} {L T R L' T' R' L'' T'' R'' : List ℕ} → Fed c r L T R q L' T' R' → Fed d q L' T' R' p L'' T'' R''
    → Fed (c ++ d) r L T R p L'' T'' R''
fed_then {c} {d} {r} {q} {p} {L'' = L''} {T'' = T''} {R'' = R''} v w = record {
  is = λ b h. subst (λ (l : List ℕ). Holds p l L'' T'' R'') (append_assoc b c d) (w.is (b ++ c) (v.is b h));
  leaves = leaves_then v.leaves w.leaves;
}

pub fed_turn : (chunk : List ℕ) (i : ℕ) {r q p : Reading} {L T R L' T' R' L'' T'' R'' : List ℕ} → i < length chunk → Fed (take i chunk) r L T R q L' T' R'
    → Fed (get_or chunk i 0 ∷ []) q L' T' R' p L'' T'' R'' → Fed (take (i + 1) chunk) r L T R p L'' T'' R''
fed_turn chunk i {r} {q} {p} {L} {T} {R} {L'' = L''} {T'' = T''} {R'' = R''} h v w =
    subst (λ (c : List ℕ). Fed c r L T R p L'' T'' R'') (sym (ap (λ (k : ℕ). take k chunk) (add-one i) ∙ take-suc chunk i 0 h)) (fed_then v w)

-- The start

pub starts : Starts (counted None 0 0 0 0 0)
unfolding with_bytes
starts = record { is = λ L T R h. going (record { room = h; many = refl; inside = omega arith; rest = refl; tied = tied_nothing refl refl }) }

pub fed_whole : (chunk : List ℕ) (i : ℕ) {r q : Reading} {L T R L' T' R' : List ℕ} → length chunk ≤ i
    → Fed (take i chunk) r L T R q L' T' R' → Fed chunk r L T R q L' T' R'
fed_whole chunk i {r} {q} {L} {T} {R} {L'} {T'} {R'} h v = subst (λ (c : List ℕ). Fed c r L T R q L' T' R') (take_all i chunk h) v
