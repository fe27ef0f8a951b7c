-- What the program's ranges stand for.
use Rattle.std.specs.Prelude.{List, map}
use Rattle.index_ranges.specs.declared.range.Range.{Range}
use Rattle.index_ranges.specs.Ranges.{KnownRange}

abbrev pub range_told : Range → KnownRange
range_told r = record { number = r.number; least = r.least; width = r.width }

abbrev pub ranges_told : List Range → List KnownRange
ranges_told rs = map range_told rs
