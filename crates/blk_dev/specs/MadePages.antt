-- Which pages of a disk's content are made.
use Rattle.std.specs.Prelude.{◌≡◌, ℕ, ◌*◌, ◌-◌, ◌⊎◌, Bool, true, false, List, [], ◌++◌, length, replicate, take_while, Any}
use Rattle.byte_pages.specs.Pages.{PageState, page_count, is_there, IsTouched}
use Rattle.dev_face.specs.declared.config.DevConfig.{DevConfig}
use Rattle.dev_face.specs.declared.config.DevConfig.TheVariants as config
use Rattle.dev_face.specs.States.{DevState, Blank, ClintAt, UartAt, BlkAt, NetAt}
use Rattle.dev_face.specs.BlkStates.{FlightState}
use Rattle.dev_face.specs.BlkRequests.{data_len}
use Rattle.dev_face.specs.BlkCalls.{is_good}
use Rattle.blk_dev.specs.Order.{in_flight, is_due}

-- of the pages of so many bytes those are there that have one of the first bytes, which were given
abbrev pub opening_there : ℕ → ℕ → List Bool
opening_there len given = replicate (page_count given) true ++ replicate (page_count len - page_count given) false

-- of the pages of a disk those are there after `set_up` that have bytes of the content given
abbrev pub opening_pages : DevConfig → List Bool
opening_pages config.Clint = []
opening_pages config.Uart = []
opening_pages (config.Blk sectors params content disk slot) = opening_there (512 * sectors) (length content)
opening_pages (config.Net guest nic slot) = []

-- the requests in flight that a tick completes
abbrev pub due_in : ℕ → List FlightState → List FlightState
due_in now fs = take_while (is_due now) fs

-- a request is a write that is well formed, and the page of a byte has bytes that it writes
pub record WritesPage (sectors i : ℕ) (f : FlightState) : Type 0 where
  pub good : is_good sectors f ≡ true
  pub kind : f.kind ≡ 1
  pub touched : IsTouched (512 * f.sector) (data_len f.kind f.chain) i

-- the pages after some requests completed: those that were there stay, those that a write among them writes to are there, and
-- no other one is
pub record MadeBy (sectors : ℕ) (fs : List FlightState) (old new : PageState) : Type 0 where
  pub stay : (i : ℕ) → is_there old i ≡ true → is_there new i ≡ true
  pub written : (i : ℕ) → Any (WritesPage sectors i) fs → is_there new i ≡ true
  pub others : (i : ℕ) → is_there new i ≡ true → (is_there old i ≡ true) ⊎ Any (WritesPage sectors i) fs
  pub count : length new.there ≡ length old.there

-- the pages after a tick began
abbrev pub MadeAt : ℕ → DevState → PageState → PageState → Type 0
MadeAt now (Blank k) old new = Unit {0}
MadeAt now (ClintAt s) old new = Unit {0}
MadeAt now (UartAt s) old new = Unit {0}
MadeAt now (BlkAt s) old new = MadeBy s.sectors (due_in now (in_flight s.active)) old new
MadeAt now (NetAt s) old new = Unit {0}
