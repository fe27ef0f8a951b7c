-- How the table keeps what is known of a place.
use Rattle.std.specs.Prelude.{ℕ, Bool, true, false, not, ◌&&◌, ◌||◌, if◌then◌else◌, nat_le, nat_eq}
use Rattle.fl_types.specs.declared.access.AccessKind.{AccessKind}
use Rattle.fl_types.specs.declared.access.AccessKind.TheVariants.{Read, Write, Update}
use Rattle.footprint.specs.declared.iterations.Iterations.{Iterations}
use Rattle.footprint.specs.declared.iterations.Iterations.TheVariants.{Nobody}
use Rattle.footprint.specs.declared.toucher.Toucher.{Toucher}
use Rattle.footprint.specs.declared.toucher.Changers.{Changers}
use Rattle.footprint.specs.Known.{Known, nothing_known, iterations_of}

-- the iterations of a kind, where a touch of this kind was there
abbrev pub kept : Bool → Iterations → Iterations
kept true its = its
kept false its = Nobody

abbrev pub known_of : Toucher → Changers → Known
known_of t c = record {
  reads = kept t.read (iterations_of t.two);
  writes = kept t.written (if t.apart then iterations_of c.writes else iterations_of t.two);
  updates = kept t.updated (if t.apart then iterations_of c.updates else iterations_of t.two);
}

-- what is known of a place in the loop instance of this number: nothing where an earlier one touched it last
abbrev pub known_at : ℕ → Toucher → Changers → Known
known_at instance t c = if nat_eq t.instance instance then known_of t c else nothing_known

abbrev pub has_only : AccessKind → Toucher → Bool
has_only Read t = t.read && (not t.written && not t.updated)
has_only Write t = t.written && (not t.read && not t.updated)
has_only Update t = t.updated && (not t.read && not t.written)

abbrev pub is_alike : Toucher → AccessKind → ℕ → Bool
is_alike t kind iteration = not t.apart && (has_only kind t || (nat_le t.two.next t.two.least && nat_eq t.two.least iteration))

abbrev pub flagged : AccessKind → Toucher → Toucher
flagged Read t = record t { read = true }
flagged Write t = record t { written = true }
flagged Update t = record t { updated = true }
