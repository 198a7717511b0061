-- Each call has one answer, and leaves one thing held.
use Rattle.std.proofs.Common.{◌≡◌, ℕ, ◌≤◌, Bool, true, false, ◌↔◌, List, length, Option, Ordering, sym, refl, ap, arith}
use Rattle.std.specs.Cmp.{IsTotalOrder}
use Rattle.grammar.specs.declared.refusal.Refusal.{Refusal}
use Rattle.parsing.specs.Items.{Source}
use Rattle.words.specs.declared.word.Word.{Word}
use Rattle.records.specs.Orders.{by_node, by_alternative}
use Rattle.records.specs.declared.node.Node.{Node}
use Rattle.records.specs.declared.alternative.Alternative.{Alternative}
use Rattle.histories.specs.Sizes.{MoreThan}
use Rattle.histories.specs.Calls.{Held, opened, Call, Reply, judged, refused, word_refused, Answer, plain, and_feed}
use Rattle.histories.specs.Forests.{Lists}
use Rattle.histories.specs.Meetings.{Meets, full, foreign, stuck, crowded, taken}
use Rattle.histories.specs.Doings.{Passes, at_end, at_fault, word_no, word_yes, rest_of, written}
use Rattle.histories.specs.Doings.{Does, open_range, open_crowded, open_done, take_closed, take_no, take_yes, through_closed, through_open}
use Rattle.histories.specs.Doings.{back_closed, back_beyond, back_done, judge_closed, judge_open}
use Rattle.histories.specs.Doings.{gather_closed, gather_none, gather_nodes, gather_alternatives, gather_done}
use Rattle.histories.specs.Statements.{Determinacy}
use Rattle.histories.proofs.Listing.{not_both, listed_same, listed_most}
use Rattle.histories.proofs.Keeping.{apart}
use Rattle.histories.proofs.Sentences.{clash}

-- What is told exactly is told in one way.
told_same : {P : Type 0} (b c : Bool) → (b ≡ true) ↔ P → (c ≡ true) ↔ P → b ≡ c
told_same true true p q = refl
told_same true false p q = sym (q.1 (p.0 refl))
told_same false true p q = p.1 (q.0 refl)
told_same false false p q = refl

meets_same : {src : Source} {n t : ℕ} {ws : List ℕ} {o p : Option Refusal} → Meets src n ws t o → Meets src n ws t p → o ≡ p
meets_same (full a) (full p) = refl
meets_same (full a) (foreign p q) = absurd (omega arith)
meets_same (full a) (stuck p q r) = absurd (omega arith)
meets_same (full a) (crowded p q r s) = absurd (omega arith)
meets_same (full a) (taken p q r s) = absurd (omega arith)
meets_same (foreign a b) (full p) = absurd (omega arith)
meets_same (foreign a b) (foreign p q) = refl
meets_same (foreign a b) (stuck p q r) = absurd (omega arith)
meets_same (foreign a b) (crowded p q r s) = absurd (omega arith)
meets_same (foreign a b) (taken p q r s) = absurd (omega arith)
meets_same (stuck a b c) (full p) = absurd (omega arith)
meets_same (stuck a b c) (foreign p q) = absurd (omega arith)
meets_same (stuck a b c) (stuck p q r) = refl
meets_same (stuck a b c) (crowded p q r s) = absurd (c r)
meets_same (stuck a b c) (taken p q r s) = absurd (c r)
meets_same (crowded a b c e) (full p) = absurd (omega arith)
meets_same (crowded a b c e) (foreign p q) = absurd (omega arith)
meets_same (crowded a b c e) (stuck p q r) = absurd (r c)
meets_same (crowded a b c e) (crowded p q r s) = refl
meets_same (crowded a b c e) (taken p q r s) = absurd (s e)
meets_same (taken a b c e) (full p) = absurd (omega arith)
meets_same (taken a b c e) (foreign p q) = absurd (omega arith)
meets_same (taken a b c e) (stuck p q r) = absurd (r c)
meets_same (taken a b c e) (crowded p q r s) = absurd (e s)
meets_same (taken a b c e) (taken p q r s) = refl

-- The reply, the words kept and the words still coming.
record Same (a b : Reply) (vs us : List ℕ) (ds es : List Word) : Type 0 where
  pub reply : a ≡ b
  pub kept : vs ≡ us
  pub coming : ds ≡ es

passes_same : {src : Source} {n : ℕ} {e : Option Refusal} {ws vs us : List ℕ} {cs ds es : List Word} {a b : Reply}
    → Passes src n e ws cs a vs ds → Passes src n e ws cs b us es → Same a b vs us ds es
passes_same (at_end {b = b} x y) (at_end {b = c} p q) = record { reply = ap judged (told_same b c y q); kept = refl; coming = refl }
passes_same (at_end x y) (at_fault p) = let z : ◌≡◌ {A = ℕ} 0 1 = cc in clash z
passes_same (at_fault x) (at_end p q) = let z : ◌≡◌ {A = ℕ} 0 1 = cc in clash z
passes_same (at_fault {r = r} x) (at_fault {r = q} p) = let e : r ≡ q = cc in record { reply = ap refused e; kept = refl; coming = refl }
passes_same (word_no {w = w} {r = r} x) (word_no {r = q} p) =
    let m = meets_same x p in
    let e : r ≡ q = cc in
    record { reply = ap (λ h. word_refused h w.from w.to) e; kept = refl; coming = refl }
passes_same (word_no x) (word_yes p q) = apart p x
passes_same (word_yes x y) (word_no p) = apart x p
passes_same (word_yes x y) (word_yes p q) = passes_same y q

gathered_same : {xs us : List Node} {ys vs : List Alternative} (ns : List Node) (bs : List Alternative) → xs ≡ us → ys ≡ vs
    → written ns bs xs ys ≡ written ns bs us vs
gathered_same ns bs p q = λ i. written ns bs (p i) (q i)

-- There are no more records than a list of all of them has, and these have room.
not_fewer : {X P : Type 0} {R : X → X → Ordering} (o : IsTotalOrder R) {Q : X → Type 0} {xs : List X} {n : ℕ}
    → Lists R Q xs → length xs ≤ n → MoreThan Q n → P
not_fewer o a h m = absurd (omega (arith, listed_most o a m.some m.apart m.each, m.many))

does_same : {src : Source} {m j k : Held} {c : Call} {a b : Answer} → Does src m c a j → Does src m c b k → (a ≡ b) × (j ≡ k)
does_same (open_range x) (open_range y) = (refl, refl)
does_same (open_range x) (open_crowded y z) = absurd (x y)
does_same (open_range x) (open_done y z) = absurd (x y)
does_same (open_crowded x y) (open_range z) = absurd (z x)
does_same (open_crowded x y) (open_crowded p q) = (refl, refl)
does_same (open_crowded x y) (open_done p q) = absurd (q y)
does_same (open_done x y) (open_range z) = absurd (z x)
does_same (open_done x y) (open_crowded p q) = absurd (y q)
does_same (open_done x y) (open_done p q) = (refl, refl)
does_same take_closed take_closed = (refl, refl)
does_same (take_no {r = r} x) (take_no {r = q} y) = let m = meets_same x y in let e : r ≡ q = cc in (ap (λ h. plain (refused h)) e, refl)
does_same (take_no x) (take_yes y) = apart y x
does_same (take_yes x) (take_no y) = apart x y
does_same (take_yes x) (take_yes y) = (refl, refl)
does_same through_closed through_closed = (refl, refl)
does_same (through_open {n = n} {c = c} x) (through_open y) =
    let s = passes_same x y in
    ((λ i. and_feed (s.reply i) (rest_of c (s.coming i))), ap (opened n) s.kept)
does_same back_closed back_closed = (refl, refl)
does_same (back_beyond x) (back_beyond y) = (refl, refl)
does_same (back_beyond x) (back_done y) = absurd (omega arith)
does_same (back_done x) (back_beyond y) = absurd (omega arith)
does_same (back_done x) (back_done y) = (refl, refl)
does_same judge_closed judge_closed = (refl, refl)
does_same (judge_open {b = b} x) (judge_open {b = c} y) = (ap (λ h. plain (judged h)) (told_same b c x y), refl)
does_same gather_closed gather_closed = (refl, refl)
does_same (gather_none a) (gather_none p) = (refl, refl)
does_same (gather_none a) (gather_nodes p q) = absurd (a p)
does_same (gather_none a) (gather_alternatives p q r) = absurd (a p)
does_same (gather_none a) (gather_done p q r s t) = absurd (a p)
does_same (gather_nodes a b) (gather_none p) = absurd (p a)
does_same (gather_nodes a b) (gather_nodes p q) = (refl, refl)
does_same (gather_nodes a b) (gather_alternatives p q r) = not_both q b
does_same (gather_nodes a b) (gather_done p q r s t) = not_fewer by_node q r b
does_same (gather_alternatives a b c) (gather_none p) = absurd (p a)
does_same (gather_alternatives a b c) (gather_nodes p q) = not_both b q
does_same (gather_alternatives a b c) (gather_alternatives p q r) = (refl, refl)
does_same (gather_alternatives a b c) (gather_done p q r s t) = not_fewer by_alternative s t c
does_same (gather_done a b c e f) (gather_none p) = absurd (p a)
does_same (gather_done a b c e f) (gather_nodes p q) = not_fewer by_node b c q
does_same (gather_done a b c e f) (gather_alternatives p q r) = not_fewer by_alternative e f r
does_same (gather_done {ns = ns} {bs = bs} a b c e f) (gather_done p q r s t) =
    (gathered_same ns bs (listed_same by_node b q) (listed_same by_alternative e s), refl)

pub determinacy : Determinacy
determinacy src m c a b j k x y = does_same x y
