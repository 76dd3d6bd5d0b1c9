use Rattle.std.proofs.Common.{◌≡◌, ℕ, ◌+◌, ◌/◌, ◌<◌, Bool, false, List, Some, None, length, get_or, set, sym, ap, ◌∙◌, arith}
use Rattle.std.specs.List.{count_by}
use Rattle.std.proofs.lemmas.List.{length-set}
use Rattle.byte_pages.specs.LittleEndian.{with_bytes}
use Rattle.byte_pages.specs.Pages.{PageState}
use Rattle.byte_pages.specs.Tables.{bytes_of}
use Rattle.byte_pages.proofs.LateTables.{in_table, entry, within, page_written, there_same, here_is_there}
use Rattle.byte_pages.proofs.late_pages.LatePages.write_piece.Goals.{in-Some, in_default}
use Rattle.byte_pages.proofs.late_pages.LatePages.write_piece.Goals as goal

-- the place lies in the table
inside : (c : goal.Joined-index_mut) → c.args.at / 4096 < length c.self.inside.table.items
inside c =
    let bytes = ap (λ (s : PageState). s.bytes) c.self.view_is in
    let h = within c.self.inside.table.items c.self.inside.len c.args.self.now.bytes (c.args.at + length c.args.from.now) bytes c.requires.inside in
    in_table c.self.inside.table.items c.self.inside.len c.args.at c.self.invariant.0 (omega (arith, h, c.requires.some))

found : (c : goal.Joined-index_mut) → get_or c.self.inside.table.items (c.args.at / 4096) None ≡ c.index_mut.result.now
found c = entry c.self.inside.table.items (c.args.at / 4096) c.index_mut.result.now (inside c) c.index_mut.ensures.value

-- its page is there
none_not : (c : goal.Joined-index_mut) → c.index_mut.result.now ≡ None → ⊥
none_not c e =
    here_is_there c.self.inside.table.items (c.args.at / 4096) (found c ∙ e) (ap (λ (s : PageState). get_or s.there (c.args.at / 4096) false) c.self.view_is ∙ c.requires.there)

pub invariant_of-self : goal.invariant_of-self
invariant_of-self c = elim c.match-index_mut.branch [
  | in-Some w ↦ (let t = c.self.inside.table.items in let k : ℕ = c.args.at / 4096 in
      rw w.self-inside-is (
        length-set t k (Some w.write_from.new.self) ∙ c.self.invariant.0,
        c.self.invariant.1 ∙ ap (count_by (λ (b : Bool). b)) (sym (there_same t k w.in-Some.page w.write_from.new.self (found c ∙ w.in-Some.is))),
      ))
  | in_default w ↦ absurd (none_not c w.in_default.is)
]

pub returns-clause-bytes : goal.returns-clause-bytes
returns-clause-bytes c = elim c.match-index_mut.branch [
  | in-Some w ↦ (let t = c.self.inside.table.items in
      let bytes = ap (λ (s : PageState). s.bytes) c.self.view_is in
      let h = within t c.self.inside.len c.args.self.now.bytes (c.args.at + length c.args.from.now) bytes c.requires.inside in
      rw w.self-inside-is
      (ap (λ (page : List ℕ). bytes_of (set t (c.args.at / 4096) (Some page)) c.self.inside.len) w.write_from.ensures.bytes
      ∙ page_written t c.self.inside.len c.args.at w.in-Some.page c.args.from.now (found c ∙ w.in-Some.is) w.write_from.ensures.length (inside c) c.requires.page h
      ∙ ap (λ (b : List ℕ). with_bytes b c.args.at c.args.from.now) bytes))
  | in_default w ↦ absurd (none_not c w.in_default.is)
]

pub returns-clause-there : goal.returns-clause-there
returns-clause-there c = elim c.match-index_mut.branch [
  | in-Some w ↦ (rw w.self-inside-is
      (there_same c.self.inside.table.items (c.args.at / 4096) w.in-Some.page w.write_from.new.self (found c ∙ w.in-Some.is) ∙ ap (λ (s : PageState). s.there) c.self.view_is))
  | in_default w ↦ absurd (none_not c w.in_default.is)
]
