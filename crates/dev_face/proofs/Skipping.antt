-- Ticks of a device that may be passed in one go, by kind: what they leave of it is the next tick alone.
use Rattle.std.proofs.Common.{◌≡◌, ℕ, ◌+◌, ◌<◌, ◌≤◌, Bool, true, false, cond, Some, None, List, [], refl, sym, ◌∙◌, ap, arith}
use Rattle.std.specs.Prelude.{IfSome, nat_le}
use Rattle.std.proofs.lemmas.Bool.Decides.{nat_tests}
use Rattle.dev_face.specs.States.{DevState, Blank, ClintAt, UartAt, BlkAt, NetAt, IsSetUp, IsComing, coming_of, at_coming, kind_of}
use Rattle.dev_face.specs.BlkCalls.{BlkBegun, BlkEnded}
use Rattle.dev_face.specs.NetCalls.{NetBegun, NetEnded}
use Rattle.dev_face.specs.Calls.{dev_begin, dev_end, dev_lines, dev_next, dev_end_idle}
use Rattle.dev_face.proofs.BlkQuiet.{blk_begun, blk_ended}
use Rattle.dev_face.proofs.NetQuiet.{net_begun, net_ended}

pub at_again : (t u : ℕ) (d : DevState) → at_coming t (at_coming u d) ≡ at_coming t d
at_again t u (Blank k) = refl
at_again t u (ClintAt s) = refl
at_again t u (UartAt s) = refl
at_again t u (BlkAt s) = refl
at_again t u (NetAt s) = refl

pub at_own : (d : DevState) → at_coming (coming_of d) d ≡ d
at_own (Blank k) = refl
at_own (ClintAt s) = refl
at_own (UartAt s) = refl
at_own (BlkAt s) = refl
at_own (NetAt s) = refl

pub at_kind : (t : ℕ) (d : DevState) → kind_of (at_coming t d) ≡ kind_of d
at_kind t (Blank k) = refl
at_kind t (ClintAt s) = refl
at_kind t (UartAt s) = refl
at_kind t (BlkAt s) = refl
at_kind t (NetAt s) = refl

pub skipped_set_up : (t : ℕ) (d : DevState) → IsSetUp d → IsSetUp (at_coming t d)
skipped_set_up t (Blank k) h = h
skipped_set_up t (ClintAt s) h = h
skipped_set_up t (UartAt s) h = h
skipped_set_up t (BlkAt s) h = h
skipped_set_up t (NetAt s) h = h

pub skipped_coming : (n t size : ℕ) (d : DevState) → IsComing n size d → IsComing t size (at_coming t d)
skipped_coming n t size (Blank k) c = absurd cc
skipped_coming n t size (ClintAt s) c = record { set_up = refl; next = refl; flies = tt }
skipped_coming n t size (UartAt s) c = record { set_up = refl; next = refl; flies = tt }
skipped_coming n t size (BlkAt s) c = record { set_up = refl; next = refl; flies = c.flies }
skipped_coming n t size (NetAt s) c = record { set_up = refl; next = refl; flies = tt }

-- a tick with nothing due begins
pub skipped_begin : (n t size : ℕ) (ram : List ℕ) (d : DevState) → IsComing n size d → n ≤ t → IfSome (dev_next d) (λ due. t < due) →
    dev_begin (at_coming t d) t ram [] ≡ record { device = at_coming (t + 1) d; ram = ram; recs = [] }
skipped_begin n t size ram (Blank k) c le due = refl
skipped_begin n t size ram (ClintAt s) c le due = refl
skipped_begin n t size ram (UartAt s) c le due = refl
skipped_begin n t size ram (BlkAt s) c le due =
    ap (λ (b : BlkBegun). record { device = BlkAt b.disk; ram = b.ram; recs = b.recs }) (blk_begun (record s { coming = t }) t ram due)
skipped_begin n t size ram (NetAt s) c le due =
    ap (λ (b : NetBegun). record { device = NetAt b.nic; ram = b.ram; recs = b.recs }) (net_begun s n t ram c.next le due)

-- a tick ends that serves nothing
pub skipped_end : (t u : ℕ) (ram : List ℕ) (d : DevState) → dev_end_idle d ≡ true → dev_end (at_coming u d) t ram ≡ record { device = at_coming u d; ram = ram; frames = []; recs = [] }
skipped_end t u ram (Blank k) idle = refl
skipped_end t u ram (ClintAt s) idle = refl
skipped_end t u ram (UartAt s) idle = refl
skipped_end t u ram (BlkAt s) idle =
    ap (λ (e : BlkEnded). record { device = BlkAt e.disk; ram = ram; frames = []; recs = e.recs }) (blk_ended (record s { coming = u }) t ram idle)
skipped_end t u ram (NetAt s) idle =
    ap (λ (e : NetEnded). record { device = NetAt e.nic; ram = e.ram; frames = e.frames; recs = e.recs }) (net_ended (record s { coming = u }) t ram idle)

no_le : (a b : ℕ) → b < a → nat_le a b ≡ false
no_le a b h = grind (arith, nat_tests)

yes_le : (a b : ℕ) → a ≤ b → nat_le a b ≡ true
yes_le a b h = grind (arith, nat_tests)

less : (a b : ℕ) → nat_le a b ≡ false → b < a
less a b h = grind (arith, nat_tests)

-- a timer that is due later stays down, and one that is past stays up
timer_stays : (b : Bool) (coming timer n t : ℕ) → nat_le coming timer ≡ b → coming ≡ n → n ≤ t → IfSome (cond b (Some timer) None) (λ due. t < due) → nat_le timer t ≡ nat_le timer n
timer_stays true coming timer n t e is le due = no_le timer t due ∙ sym (no_le timer n (omega (arith, due, le)))
timer_stays false coming timer n t e is le due = let h : timer < coming = less coming timer e in yes_le timer t (omega (arith, h, is, le)) ∙ sym (yes_le timer n (omega (arith, h, is)))

-- before something is due the lines stay
pub skipped_lines : (n t u size : ℕ) (d : DevState) → IsComing n size d → n ≤ t → IfSome (dev_next d) (λ due. t < due) → dev_lines (at_coming u d) t ≡ dev_lines d n
skipped_lines n t u size (Blank k) c le due = refl
skipped_lines n t u size (ClintAt s) c le due = let e : nat_le s.mtimecmp t ≡ nat_le s.mtimecmp n = timer_stays (nat_le s.coming s.mtimecmp) s.coming s.mtimecmp n t refl c.next le due in rw e refl
skipped_lines n t u size (UartAt s) c le due = refl
skipped_lines n t u size (BlkAt s) c le due = refl
skipped_lines n t u size (NetAt s) c le due = refl
