-- One more request at the end of the list changes nothing of what came before.
use Rattle.std.proofs.Common.{◌≡◌, ℕ, zero, suc, ◌+◌, ◌*◌, ◌/◌, ◌≤◌, ◌<◌, ◌^◌, min, max, List, [], ◌∷◌, ◌++◌, length, refl, sym, ap, ◌∙◌, arith}
use Rattle.std.proofs.lemmas.List.{get_or_append_left, get_or_push, length_push}
use Rattle.disk_model.specs.declared.disk_params.DiskParams.{DiskParams}
use Rattle.disk_model.specs.Service.{Request, Position, request, nth, head_before, free_before, service, finish, disk_at, distance}
use Rattle.disk_model.specs.Server.{Server, StandsFor, admitted}

pub nth_before : (h : List Request) (r : Request) (i : ℕ) → i < length h → nth (h ++ r ∷ []) i ≡ nth h i
nth_before h r i l = get_or_append_left h (r ∷ []) (request 0 0 0) i l

pub head_push : (h : List Request) (r : Request) (i : ℕ) → i ≤ length h → head_before (h ++ r ∷ []) i ≡ head_before h i
head_push h r zero l = refl
head_push h r (suc i) l = ap (λ (x : Request). x.sector + x.count) (nth_before h r i (omega arith))

pub service_push : (p : DiskParams) (h : List Request) (r : Request) (i : ℕ) → i < length h → service p (h ++ r ∷ []) i ≡ service p h i
service_push p h r i l =
    let e = nth_before h r i l in
    let f = head_push h r i (omega arith) in
    cc

pub free_push : (p : DiskParams) (h : List Request) (r : Request) (i : ℕ) → i ≤ length h → free_before p (h ++ r ∷ []) i ≡ free_before p h i
free_push p h r zero l = refl
free_push p h r (suc i) l =
    let e = nth_before h r i (omega arith) in
    let s = service_push p h r i (omega arith) in
    let f = free_push p h r i (omega arith) in
    cc

-- what the last request of a list costs, by where the list before it leaves the disk
abbrev pub served : DiskParams → Position → ℕ → ℕ → ℕ → ℕ
served p at n s c = min (max n at.free + (p.base + distance s at.head * p.seek_num / p.seek_den + p.per_sector * c)) (2 ^ 63)

pub finish_last : (p : DiskParams) (h : List Request) (at : Position) (n s c : ℕ) → at ≡ disk_at p h → finish p (h ++ request n s c ∷ []) (length h) ≡ served p at n s c
finish_last p h at n s c e =
    let r : Request = request n s c in
    let l = get_or_push h r (request 0 0 0) (length h) refl in
    let f = free_push p h r (length h) (omega arith) in
    let g = head_push h r (length h) (omega arith) in
    cc

pub position_last : (p : DiskParams) (h : List Request) (at : Position) (n s c : ℕ) → at ≡ disk_at p h → disk_at p (h ++ request n s c ∷ []) ≡ record { head = s + c; free = served p at n s c }
position_last p h at n s c e =
    let r : Request = request n s c in
    let k : length (h ++ r ∷ []) ≡ suc (length h) = omega (arith, length_push h r) in
    let l = get_or_push h r (request 0 0 0) (length h) refl in
    let f = finish_last p h at n s c e in
    let a : disk_at p (h ++ r ∷ []) ≡ record { head = head_before (h ++ r ∷ []) (suc (length h)); free = free_before p (h ++ r ∷ []) (suc (length h)) } = cc in
    a ∙ cc

pub stands_admitted : (s : Server) (h : List Request) (n a b : ℕ) → StandsFor s h → StandsFor (admitted s n a b) (h ++ request n a b ∷ [])
unfolding admitted
stands_admitted s h n a b e = sym (position_last s.costs h s.position n a b e)

pub answer_admitted : (s : Server) (h : List Request) (n a b : ℕ) → StandsFor s h → (admitted s n a b).position.free ≡ finish s.costs (h ++ request n a b ∷ []) (length h)
unfolding admitted
answer_admitted s h n a b e = sym (finish_last s.costs h s.position n a b e)

pub costs_admitted : (s : Server) (n a b : ℕ) → (admitted s n a b).costs ≡ s.costs
unfolding admitted
costs_admitted s n a b = refl
