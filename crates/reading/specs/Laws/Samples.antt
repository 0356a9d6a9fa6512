-- Small inputs, and what they say.
use Rattle.std.specs.Prelude.{[], ◌∷◌, ◌≡◌, refl}
use Rattle.reading.specs.Reading.{
  after,
  digits,
  fit,
  number_at,
  field_at,
  numbers_of,
  next,
  first,
  class,
  entry,
  with_line,
  with_byte,
  with_bytes,
  bad,
  good,
  ending,
  answer,
  read,
}

-- nothing at all
empty : read ([]) ≡ bad 1
unfolding read answer ending with_bytes with_byte with_line first class entry next numbers_of field_at number_at fit digits after
empty = refl

-- no names, no records
no_names : read (110 ∷ 97 ∷ 109 ∷ 101 ∷ 115 ∷ 61 ∷ 48 ∷ 10 ∷ []) ≡ good [] []
unfolding read answer ending with_bytes with_byte with_line first class entry next numbers_of field_at number_at fit digits after
no_names = refl

-- one name, one record
one : read (110 ∷ 97 ∷ 109 ∷ 101 ∷ 115 ∷ 61 ∷ 49 ∷ 10 ∷ 99 ∷ 108 ∷ 97 ∷ 115 ∷ 115 ∷ 61 ∷ 55 ∷ 10 ∷ 102 ∷ 111 ∷ 114 ∷ 109 ∷ 61 ∷ 49 ∷ 32 ∷ 105 ∷ 100 ∷ 61 ∷ 49
    ∷ 32 ∷ 110 ∷ 97 ∷ 109 ∷ 101 ∷ 61 ∷ 48 ∷ 32 ∷ 99 ∷ 111 ∷ 117 ∷ 110 ∷ 116 ∷ 61 ∷ 48 ∷ 32 ∷ 102 ∷ 114 ∷ 111 ∷ 109 ∷ 61 ∷ 52 ∷ 50 ∷ 57 ∷ 52 ∷ 57 ∷ 54
    ∷ 55 ∷ 50 ∷ 57 ∷ 53 ∷ 32 ∷ 116 ∷ 111 ∷ 61 ∷ 48 ∷ 10 ∷ []) ≡ good (7 ∷ []) (record { form = 1; id = 1; name = 0; count = 0; from = 4294967295; to = 0 } ∷ [])
unfolding read answer ending with_bytes with_byte with_line first class entry next numbers_of field_at number_at fit digits after
one = refl

-- a class line missing
missing : read (110 ∷ 97 ∷ 109 ∷ 101 ∷ 115 ∷ 61 ∷ 50 ∷ 10 ∷ 99 ∷ 108 ∷ 97 ∷ 115 ∷ 115 ∷ 61 ∷ 55 ∷ 10 ∷ []) ≡ bad 3
unfolding read answer ending with_bytes with_byte with_line first class entry next numbers_of field_at number_at fit digits after
missing = refl

-- the last line without LF
no_lf : read (110 ∷ 97 ∷ 109 ∷ 101 ∷ 115 ∷ 61 ∷ 48 ∷ []) ≡ bad 1
unfolding read answer ending with_bytes with_byte with_line first class entry next numbers_of field_at number_at fit digits after
no_lf = refl

-- a zero in front
leading_zero : read (110 ∷ 97 ∷ 109 ∷ 101 ∷ 115 ∷ 61 ∷ 49 ∷ 10 ∷ 99 ∷ 108 ∷ 97 ∷ 115 ∷ 115 ∷ 61 ∷ 48 ∷ 55 ∷ 10 ∷ []) ≡ bad 2
unfolding read answer ending with_bytes with_byte with_line first class entry next numbers_of field_at number_at fit digits after
leading_zero = refl

-- a class above 255
large_class : read (110 ∷ 97 ∷ 109 ∷ 101 ∷ 115 ∷ 61 ∷ 49 ∷ 10 ∷ 99 ∷ 108 ∷ 97 ∷ 115 ∷ 115 ∷ 61 ∷ 50 ∷ 53 ∷ 54 ∷ 10 ∷ []) ≡ bad 2
unfolding read answer ending with_bytes with_byte with_line first class entry next numbers_of field_at number_at fit digits after
large_class = refl

-- a number above 4294967295
large_number : read (110 ∷ 97 ∷ 109 ∷ 101 ∷ 115 ∷ 61 ∷ 52 ∷ 50 ∷ 57 ∷ 52 ∷ 57 ∷ 54 ∷ 55 ∷ 50 ∷ 57 ∷ 54 ∷ 10 ∷ []) ≡ bad 1
unfolding read answer ending with_bytes with_byte with_line first class entry next numbers_of field_at number_at fit digits after
large_number = refl

-- two spaces
two_spaces : read (110 ∷ 97 ∷ 109 ∷ 101 ∷ 115 ∷ 61 ∷ 48 ∷ 10 ∷ 102 ∷ 111 ∷ 114 ∷ 109 ∷ 61 ∷ 49 ∷ 32 ∷ 32 ∷ 105 ∷ 100 ∷ 61 ∷ 49 ∷ 32 ∷ 110 ∷ 97 ∷ 109 ∷ 101 ∷ 61 ∷ 48
    ∷ 32 ∷ 99 ∷ 111 ∷ 117 ∷ 110 ∷ 116 ∷ 61 ∷ 48 ∷ 32 ∷ 102 ∷ 114 ∷ 111 ∷ 109 ∷ 61 ∷ 48 ∷ 32 ∷ 116 ∷ 111 ∷ 61 ∷ 48 ∷ 10 ∷ []) ≡ bad 2
unfolding read answer ending with_bytes with_byte with_line first class entry next numbers_of field_at number_at fit digits after
two_spaces = refl

-- a line after the last record
more : read (110 ∷ 97 ∷ 109 ∷ 101 ∷ 115 ∷ 61 ∷ 48 ∷ 10 ∷ 10 ∷ []) ≡ bad 2
unfolding read answer ending with_bytes with_byte with_line first class entry next numbers_of field_at number_at fit digits after
more = refl
