-- The leaf kind of points: a load in newtons and a reading in millivolts. Assumes nothing.
use Rattle.std.specs.Prelude.{ℕ, ◌+◌, ◌*◌, ◌/◌, ◌%◌, ◌^◌, Bool, ◌&&◌, Some, None, Option, Float}
use Rattle.std.specs.Float.Ieee.{eq}
use Rattle.kinds.specs.declared.points.Point.{Point}
use Rattle.kinds.specs.Numbers.{plain, tidied_number, pattern, taken_number}

abbrev pub lawful_point : Point → Bool
lawful_point p = plain p.load && plain p.reading

-- the point of two numbers, where there are two
abbrev pub both : Option Float → Option Float → Option Point
both None y = None
both (Some x) None = None
both (Some x) (Some y) = Some (record { load = x; reading = y })

abbrev pub tidied_point : Point → Option Point
tidied_point p = both (tidied_number p.load) (tidied_number p.reading)

-- the pattern of the load, then that of the reading
abbrev pub word_point : Point → ℕ
word_point p = pattern p.load * 2 ^ 32 + pattern p.reading

abbrev pub taken_point : ℕ → Option Point
taken_point w = both (taken_number (w / 2 ^ 32)) (taken_number (w % 2 ^ 32))

-- both numbers are equal as IEEE 754 compares them, so a zero equals a negative zero
abbrev pub alike_point : Point → Point → Bool
alike_point p q = eq p.load q.load && eq p.reading q.reading
