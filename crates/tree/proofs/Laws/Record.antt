-- Laws of records and the numbers they are.
use Rattle.std.specs.Prelude.{ℕ, zero, suc, ◌+◌, ◌-◌, ◌*◌, ◌/◌, ◌%◌, ◌<◌, List, [], ◌∷◌, ◌≡◌, refl, length, get_or, take, drop}
use Rattle.std.proofs.Common.{ap, sym, ◌∙◌, arith, take_all, drop-drop, get_or-take}
use Rattle.std.proofs.Math.Seq.{take-append-add}
use Rattle.table.specs.Laws.Part.{part}
use Rattle.table.specs.Layout.{layout}
use Rattle.table.specs.Laws.Layout.{get-layout}
use Rattle.tree.specs.Record.{Record, width, put, numbers, records, blank, nth}

pub put_long : (r : Record) → length (put r) ≡ width
put_long r = refl

pub length-records : (rs : List ℕ) → length (records rs) ≡ length rs / width
unfolding records
length-records [] = refl
length-records (a ∷ []) = refl
length-records (a ∷ b ∷ []) = refl
length-records (a ∷ b ∷ c ∷ []) = refl
length-records (a ∷ b ∷ c ∷ d ∷ []) = refl
length-records (a ∷ b ∷ c ∷ d ∷ e ∷ []) = refl
length-records (a ∷ b ∷ c ∷ d ∷ e ∷ f ∷ l) = omega (arith, length-records l)

-- the numbers of the records are those given, but for too few at the end
pub numbers-records : (rs : List ℕ) → numbers (records rs) ≡ take (width * length (records rs)) rs
unfolding records layout
numbers-records [] = refl
numbers-records (a ∷ []) = refl
numbers-records (a ∷ b ∷ []) = refl
numbers-records (a ∷ b ∷ c ∷ []) = refl
numbers-records (a ∷ b ∷ c ∷ d ∷ []) = refl
numbers-records (a ∷ b ∷ c ∷ d ∷ e ∷ []) = refl
numbers-records (a ∷ b ∷ c ∷ d ∷ e ∷ f ∷ l) =
    let z : width * suc (length (records l)) ≡ width + width * length (records l) = omega arith in
    ap (λ (m : List ℕ). a ∷ b ∷ c ∷ d ∷ e ∷ f ∷ m) (numbers-records l)
    ∙ sym (take-append-add (a ∷ b ∷ c ∷ d ∷ e ∷ f ∷ []) l (width * length (records l)))
    ∙ ap (λ (k : ℕ). take k (a ∷ b ∷ c ∷ d ∷ e ∷ f ∷ l)) (sym z)

pub numbers-whole : (rs : List ℕ) → length rs % width ≡ 0 → numbers (records rs) ≡ rs
numbers-whole rs h = numbers-records rs ∙ take_all (width * length (records rs)) rs (omega (arith, length-records rs))

pub records-numbers : (l : List Record) → records (numbers l) ≡ l
unfolding records layout
records-numbers [] = refl
records-numbers (r ∷ l) = ap (λ (m : List Record). r ∷ m) (records-numbers l)

-- field j of record i
pub nth_field : (rs : List ℕ) (i j : ℕ) → i < length (records rs) → j < width → get_or rs (width * i + j) 0 ≡ get_or (put (nth rs i)) j 0
nth_field rs i j h g =
    sym (get_or-take (width * length (records rs)) rs (width * i + j) 0 (omega arith))
    ∙ ap (λ (m : List ℕ). get_or m (width * i + j) 0) (sym (numbers-records rs))
    ∙ get-layout width put put_long (records rs) i j blank h g

-- the records after the first, and those from record i on
pub records-next : (rs : List ℕ) → records (drop width rs) ≡ drop 1 (records rs)
unfolding records
records-next [] = refl
records-next (a ∷ []) = refl
records-next (a ∷ b ∷ []) = refl
records-next (a ∷ b ∷ c ∷ []) = refl
records-next (a ∷ b ∷ c ∷ d ∷ []) = refl
records-next (a ∷ b ∷ c ∷ d ∷ e ∷ []) = refl
records-next (a ∷ b ∷ c ∷ d ∷ e ∷ f ∷ l) = refl

pub records-drop : (rs : List ℕ) (i : ℕ) → records (drop (width * i) rs) ≡ drop i (records rs)
records-drop rs zero = refl
records-drop rs (suc i) =
    let z : width * suc i ≡ width + width * i = omega arith in
    let o : 1 + i ≡ suc i = omega arith in
    ap (λ (k : ℕ). records (drop k rs)) z
    ∙ ap records (sym (drop-drop (width * i) width rs))
    ∙ records-drop (drop width rs) i
    ∙ ap (drop i) (records-next rs)
    ∙ drop-drop i 1 (records rs)
    ∙ ap (λ (k : ℕ). drop k (records rs)) o

-- the records of the part of a slice that starts at record i
pub part-records : (rs : List ℕ) (i : ℕ) → records (take (length rs - width * i) (drop (width * i) rs)) ≡ drop i (records rs)
part-records rs i = ap records (part rs (width * i)) ∙ records-drop rs i
