-- What the program's facts and pairs stand for.
use Rattle.std.specs.Prelude.{List, map}
use Rattle.index_forms.specs.Seen.{form_tree}
use Rattle.index_knowledge.specs.declared.fact.Fact.{Fact}
use Rattle.index_knowledge.specs.declared.pair.Pair.{Pair}
use Rattle.index_knowledge.specs.Knowledge.{KnownFact, KnownPair}

abbrev pub fact_told : Fact → KnownFact
fact_told f = record { number = f.number; first = f.first; second = f.second; differences = map form_tree f.differences }

abbrev pub facts_told : List Fact → List KnownFact
facts_told fs = map fact_told fs

abbrev pub pair_told : Pair → KnownPair
pair_told p = record { loop_number = p.loop_number; first = p.first; second = p.second; differences = map form_tree p.differences; nest = p.nest }

abbrev pub pairs_told : List Pair → List KnownPair
pairs_told ps = map pair_told ps
