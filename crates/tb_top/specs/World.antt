-- What is seen of sinks, and all that the clauses of the top call speak of.
use Rattle.std.specs.Prelude.{◌≡◌, ℕ, List, [], ◌∷◌, map, Option, String, string_bytes, Vec}
use Rattle.dev_face.specs.declared.kind.Kind.{Kind}
use Rattle.bench_build.specs.declared.stock.Stock.{Stock}
use Rattle.bench_build.specs.Stocks.{counts}
use Rattle.tb_io.specs.declared.files.Files.{Ghosts as FilesWords}
use Rattle.tb_io.specs.declared.sink.Sink.{Ghosts as SinkWords}
use Rattle.open_images.specs.Reads.{FilesSeen, files_seen}

-- the bytes taken, where they are told, and the count of faults
pub record SinkSeen : Type 0 where
  pub taken : Option (List ℕ)
  pub faults : ℕ

abbrev pub sink_seen : {O : Type 0} → SinkWords O → O → SinkSeen
sink_seen G sink = record { taken = G.taken sink; faults = G.faults sink }

-- the words, the files before and after the call, out before and after it, and how many devices there are of each kind
pub record World : Type 0 where
  pub words : List (List ℕ)
  pub files : FilesSeen
  pub files_after : FilesSeen
  pub out : SinkSeen
  pub out_after : SinkSeen
  pub stock : Kind → ℕ

abbrev pub world : {F O : Type 0} → List (List ℕ) → FilesWords F → F → F → SinkWords O → O → O → (Kind → ℕ) → World
world words G files files_after H out out_after stock = record {
  words = words;
  files = files_seen G files;
  files_after = files_seen G files_after;
  out = sink_seen H out;
  out_after = sink_seen H out_after;
  stock = stock;
}

-- the lists of a stock in the order of the kinds, and how many devices there are in them
abbrev pub by_kind : {A Z : Type 0} → Vec A Z → Vec A Z → Vec A Z → Vec A Z → List (List A)
by_kind clints uarts blks nets = clints.items ∷ uarts.items ∷ blks.items ∷ nets.items ∷ []

abbrev pub sizes : {X : Type 0} {P : X → Type 0} → Stock X P → Kind → ℕ
sizes s = counts (by_kind s.clints s.uarts s.blks s.nets)

-- the bytes of words
abbrev pub texts : {Z : Type 0} → List (String Z) → List (List ℕ)
texts words = map string_bytes words

-- out has taken nothing
abbrev pub Quiet : World → Type 0
Quiet w = w.out_after.taken ≡ w.out.taken
