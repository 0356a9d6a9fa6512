-- The records of a form's parts, by how many each part has: a part's are the form's own, and apart from the others'.
use Rattle.std.specs.Prelude.{ℕ, ◌+◌, ◌≡◌}
use Rattle.std.proofs.Common.{arith}
use Rattle.pass_laws.specs.Laws.Ranges.{Covers}
use Rattle.pass_laws.specs.Laws.Keeps.{Off}
use Rattle.pass_laws.specs.Laws.Forms.{Minus}

module _ {own : ℕ → Type 0} (i : ℕ) where
  -- three parts behind the form's record
  module _ (a b c : ℕ) (o : Covers own i (i + (1 + (a + (b + c))))) where
    pub if_first : Covers own (i + 1) (i + 1 + a)
    if_first x l u = o x (omega arith) (omega arith)

    pub if_second : Covers (Minus own (i + 1) (i + 1 + a)) (i + 1 + a) (i + 1 + a + b)
    if_second x l u = (o x (omega arith) (omega arith), λ y z. omega arith)

    pub if_third : Covers (Minus (Minus own (i + 1) (i + 1 + a)) (i + 1 + a) (i + 1 + a + b)) (i + 1 + a + b) (i + 1 + a + b + c)
    if_third x l u = ((o x (omega arith) (omega arith), λ y z. omega arith), λ y z. omega arith)

  -- names, initial expressions and a body: the initial expressions come first
  module _ (names es body : ℕ) (o : Covers own i (i + (1 + (names + (es + body))))) where
    pub let_initials : Covers own (i + 1 + names) (i + 1 + names + es)
    let_initials x l u = o x (omega arith) (omega arith)

    pub let_names_lem : Covers (Minus own (i + 1 + names) (i + 1 + names + es)) (i + 1) (i + 1 + names)
    let_names_lem x l u = (o x (omega arith) (omega arith), λ y z. omega arith)

    pub let_body_lem : Covers (Minus (Minus own (i + 1 + names) (i + 1 + names + es)) (i + 1) (i + 1 + names)) (i + 1 + names + es) (i + 1 + names + es + body)
    let_body_lem x l u = ((o x (omega arith) (omega arith), λ y z. omega arith), λ y z. omega arith)

    module _ {x : ℕ} (e : x ≡ i) where
      pub let_begins : Minus own (i + 1 + names) (i + 1 + names + es) x
      let_begins = (o x (omega arith) (omega arith), λ y z. omega arith)

      pub let_ends : Minus (Minus (Minus own (i + 1 + names) (i + 1 + names + es)) (i + 1) (i + 1 + names)) (i + 1 + names + es) (i + 1 + names + es + body) x
      let_ends = (((o x (omega arith) (omega arith), λ y z. omega arith), λ y z. omega arith), λ y z. omega arith)

  -- parameters and a body
  module _ (names body : ℕ) (o : Covers own i (i + (1 + (names + body)))) where
    pub lambda_names : Covers own (i + 1) (i + 1 + names)
    lambda_names x l u = o x (omega arith) (omega arith)

    pub lambda_body_lem : Covers (Minus own (i + 1) (i + 1 + names)) (i + 1 + names) (i + 1 + names + body)
    lambda_body_lem x l u = (o x (omega arith) (omega arith), λ y z. omega arith)

    module _ {x : ℕ} (e : x ≡ i) where
      pub lambda_begins : own x
      lambda_begins = o x (omega arith) (omega arith)

      pub lambda_ends : Minus (Minus own (i + 1) (i + 1 + names)) (i + 1 + names) (i + 1 + names + body) x
      lambda_ends = ((lambda_begins, λ y z. omega arith), λ y z. omega arith)

  -- a head and operands: the operands come first
  module _ (head es : ℕ) (o : Covers own i (i + (1 + (head + es)))) where
    pub call_operands : Covers own (i + 1 + head) (i + 1 + head + es)
    call_operands x l u = o x (omega arith) (omega arith)

    pub call_head : Covers (Minus own (i + 1 + head) (i + 1 + head + es)) (i + 1) (i + 1 + head)
    call_head x l u = (o x (omega arith) (omega arith), λ y z. omega arith)

  -- one tree, and those behind it
  module _ (a b : ℕ) (o : Covers own i (i + (a + b))) where
    pub row_first : Covers own i (i + a)
    row_first x l u = o x (omega arith) (omega arith)

    pub row-rest : Covers (Minus own i (i + a)) (i + a) (i + a + b)
    row-rest x l u = (o x (omega arith) (omega arith), λ y z. omega arith)

-- What is no record of a form is none of its parts'

module _ (own : ℕ → Type 0) (i : ℕ) where
  pub if_off : (a b c x : ℕ) → Minus own i (i + (1 + (a + (b + c)))) x
      → Minus (Minus (Minus own (i + 1) (i + 1 + a)) (i + 1 + a) (i + 1 + a + b)) (i + 1 + a + b) (i + 1 + a + b + c) x
  if_off a b c x z = (((z.0, λ l u. z.1 (omega arith) (omega arith)), λ l u. z.1 (omega arith) (omega arith)), λ l u. z.1 (omega arith) (omega arith))

  pub let_off : (names es body x : ℕ) → Minus own i (i + (1 + (names + (es + body)))) x
      → Minus (Minus (Minus own (i + 1 + names) (i + 1 + names + es)) (i + 1) (i + 1 + names)) (i + 1 + names + es) (i + 1 + names + es + body) x
  let_off names es body x z =
      (((z.0, λ l u. z.1 (omega arith) (omega arith)), λ l u. z.1 (omega arith) (omega arith)), λ l u. z.1 (omega arith) (omega arith))

  pub lambda_off : (names body x : ℕ) → Minus own i (i + (1 + (names + body))) x
      → Minus (Minus own (i + 1) (i + 1 + names)) (i + 1 + names) (i + 1 + names + body) x
  lambda_off names body x z = ((z.0, λ l u. z.1 (omega arith) (omega arith)), λ l u. z.1 (omega arith) (omega arith))

  pub call_off : (head es x : ℕ) → Minus own i (i + (1 + (head + es))) x
      → Minus (Minus own (i + 1 + head) (i + 1 + head + es)) (i + 1) (i + 1 + head) x
  call_off head es x z = ((z.0, λ l u. z.1 (omega arith) (omega arith)), λ l u. z.1 (omega arith) (omega arith))

  pub row_off : (a b x : ℕ) → Minus own i (i + (a + b)) x → Minus (Minus own i (i + a)) (i + a) (i + a + b) x
  row_off a b x z = ((z.0, λ l u. z.1 (omega arith) (omega arith)), λ l u. z.1 (omega arith) (omega arith))

-- What lies behind some records or before them is apart from them

pub off_next : (i j k : ℕ) → Covers (Off i j) j k
off_next i j k x l u y z = omega arith

pub off_later : (i j n k : ℕ) → Covers (Off i j) (j + n) k
off_later i j n k x l u y z = omega arith

pub off_before : (i j k : ℕ) → Covers (Off j k) i j
off_before i j k x l u y z = omega arith

module _ {x i : ℕ} (e : x ≡ i) (n : ℕ) where
  pub off_here : (k : ℕ) → Off (i + 1 + n) k x
  off_here k y z = omega arith

  pub off_far : (m k : ℕ) → Off (i + 1 + n + m) k x
  off_far m k y z = omega arith
