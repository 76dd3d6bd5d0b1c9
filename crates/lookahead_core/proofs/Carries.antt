-- What the links of one node bring to it and take from it, of links that were looked at up to some index.
use Rattle.std.proofs.Common.{◌≡◌, ℕ, ◌+◌, ◌<◌, ◌≤◌, false, ◌==◌, List, [], ◌++◌, map, take, drop, length, get_or, refl, sym, ◌∙◌, ap, append-nil, arith}
use Rattle.std.proofs.lemmas.Bool.Decides.{Decides-eqb}
use Rattle.lookahead_core.specs.Links.{pulled, sent, brought_by, all_brought}
use Rattle.lookahead_core.specs.Lists.{list_at}
use Rattle.lookahead_core.specs.Motion.{Bytes}
use Rattle.lookahead_core.specs.declared.link.Link.{Link}
use Rattle.lookahead_core.proofs.ListLemmas.{all_brought-more}
use Rattle.lookahead_core.proofs.Walks.{Reached, Stepped, stepped, ended, kept_on, same_on}

-- what the links below m brought to node who is taken from them and on its lists
pub record HasPulled (who now m : ℕ) (old links : List Link) (start ports : List (List Bytes)) : Type 0 where
  pub links_are : links ≡ map (pulled who now) (take m old) ++ drop m old
  pub lists : (nic : ℕ) → nic < length start → list_at ports nic ≡ list_at start nic ++ all_brought who nic now (take m old)

-- links that do not lead to the node are let alone and bring nothing
alone : (who now : ℕ) (link : Link) → (link.wire.to == who) ≡ false → pulled who now link ≡ link
alone who now link e = rw e refl

silent_link : (who nic now : ℕ) (link : Link) → (link.wire.to == who) ≡ false → brought_by who nic now link ≡ []
silent_link who nic now link e = rw e refl

pub pulled_on : (who now m n : ℕ) (old links : List Link) (start ports : List (List Bytes)) → m ≤ n → n ≤ length old →
    ((k : ℕ) (d : Link) → m ≤ k → k < n → ((get_or old k d).wire.to == who) ≡ false) → HasPulled who now m old links start ports → HasPulled who now n old links start ports
pulled_on who now m n old links start ports le in' none has = record {
  links_are = has.links_are ∙ sym (kept_on (pulled who now) old m n le in' (λ k d low lt. alone who now (get_or old k d) (none k d low lt)));
  lists = λ nic h. has.lists nic h ∙ ap (λ fs. list_at start nic ++ fs) (sym (same_on (all_brought who nic now) old m n le in' (λ k d low lt.
      all_brought-more who nic now old k d (omega (arith, lt, in')) ∙ ap (λ fs. all_brought who nic now (take k old) ++ fs) (silent_link who nic now (get_or old k d) (none k d low lt))
      ∙ append-nil (all_brought who nic now (take k old)))));
}

-- a walk over the links that lead to the node, before the one at place j
pub record Pulls (who now j : ℕ) (into : List ℕ) (old links : List Link) (start ports : List (List Bytes)) : Type 0 where
  pub m : ℕ
  pub reached : Reached (λ w. w.to == who) old into j m
  pub has : HasPulled who now m old links start ports

-- at a link: it is as it was, and so are all that come after it
pub pulls_at : (who now j : ℕ) (into : List ℕ) (old links : List Link) (start ports : List (List Bytes)) → Pulls who now j into old links start ports → j < length into →
    (get_or into j 0 < length old) × HasPulled who now (get_or into j 0) old links start ports × Reached (λ w. w.to == who) old into (j + 1) (get_or into j 0 + 1)
    × ((d : Link) → (get_or old (get_or into j 0) d).wire.to ≡ who)
pulls_at who now j into old links start ports p lt =
    let s = stepped (λ w. w.to == who) old into j p.m p.reached lt in (
      s.inside,
      pulled_on who now p.m (get_or into j 0) old links start ports s.least (omega (arith, s.inside)) s.none_between p.has,
      s.reached,
      λ d. (Decides-eqb (get_or old (get_or into j 0) d).wire.to who).0 (s.is_one d),
    )

pub pulls_end : (who now j : ℕ) (into : List ℕ) (old links : List Link) (start ports : List (List Bytes)) → Pulls who now j into old links start ports → length into ≤ j →
    HasPulled who now (length old) old links start ports
pulls_end who now j into old links start ports p le =
    pulled_on who now p.m (length old) old links start ports p.reached.within (omega arith) (ended (λ w. w.to == who) old into j p.m p.reached le) p.has

-- links that do not begin at the node are let alone
unsent : (who now : ℕ) (left : List (List Bytes)) (link : Link) → (link.wire.from == who) ≡ false → sent who now left link ≡ link
unsent who now left link e = rw e refl

-- a walk over the links that begin at the node, before the one at place j
pub record Sends (who now j : ℕ) (out : List ℕ) (old links : List Link) (start ports : List (List Bytes)) : Type 0 where
  pub m : ℕ
  pub reached : Reached (λ w. w.from == who) old out j m
  pub links_are : links ≡ map (sent who now start) (take m old) ++ drop m old
  -- the lists of the nics of the links that are left are as they were
  pub rest : (k : ℕ) (d : Link) → m ≤ k → k < length old → (get_or old k d).wire.from ≡ who → list_at ports (get_or old k d).wire.from_nic ≡ list_at start (get_or old k d).wire.from_nic

pub sends_at : (who now j : ℕ) (out : List ℕ) (old links : List Link) (start ports : List (List Bytes)) (p : Sends who now j out old links start ports) → j < length out →
    Stepped (λ w. w.from == who) old out j p.m (get_or out j 0) × (links ≡ map (sent who now start) (take (get_or out j 0) old) ++ drop (get_or out j 0) old)
    × ((d : Link) → (get_or old (get_or out j 0) d).wire.from ≡ who)
sends_at who now j out old links start ports p lt =
    let s = stepped (λ w. w.from == who) old out j p.m p.reached lt in (
      s,
      p.links_are ∙ sym (kept_on (sent who now start) old p.m (get_or out j 0) s.least (omega (arith, s.inside)) (λ k d low less. unsent who now start (get_or old k d) (s.none_between k d low less))),
      λ d. (Decides-eqb (get_or old (get_or out j 0) d).wire.from who).0 (s.is_one d),
    )

pub sends_end : (who now j : ℕ) (out : List ℕ) (old links : List Link) (start ports : List (List Bytes)) → Sends who now j out old links start ports → length out ≤ j →
    links ≡ map (sent who now start) (take (length old) old) ++ drop (length old) old
sends_end who now j out old links start ports p le =
    p.links_are ∙ sym (kept_on (sent who now start) old p.m (length old) p.reached.within (omega arith)
    (λ k d low lt. unsent who now start (get_or old k d) (ended (λ w. w.from == who) old out j p.m p.reached le k d low lt)))
