-- What the law refutes, over any grammar.
use Rattle.std.proofs.Common.{◌≡◌, ◌≢◌, ℕ, ◌-◌, Bool, List, [], ◌∷◌, ◌++◌, length, take, drop, replicate, None, inl, inr}
use Rattle.std.proofs.Common.{sym, refl, ap, ◌∙◌, subst, append_assoc, append-nil, arith, length-append}
use Rattle.grammar.specs.declared.refusal.Refusal.{Refusal}
use Rattle.parsing.specs.Grammar.{Sentence}
use Rattle.parsing.specs.Items.{Source}
use Rattle.words.specs.Feeds.{Coming}
use Rattle.words.specs.declared.word.Word.{Word}
use Rattle.std.proofs.lemmas.List.{map-append, append_cancel_left}
use Rattle.std.proofs.Math.Seq.{take-append_seam}
use Rattle.register.proofs.Growing.{climbs_apart}
use Rattle.records.specs.Blanks.{blank_node, blank_alternative}
use Rattle.records.specs.Orders.{by_node, by_alternative}
use Rattle.histories.specs.Calls.{Held, closed, opened, Call, open_with, take_word, read_through, back_to, judge, gather}
use Rattle.histories.specs.Calls.{Reply, done, judged, counted, refused, word_refused, Refuses, RefusedAs}
use Rattle.histories.specs.Calls.{Answer, plain, and_feed, reply_of}
use Rattle.histories.specs.Forests.{Nodes, Alternatives, filled}
use Rattle.histories.specs.Doings.{written}
use Rattle.histories.specs.Histories.{History, then, Keeps}
use Rattle.histories.specs.Laws.{Begins, terminals_of, OpenRight, TakeRight, BackRight, ReadRight, Right, Law}
use Rattle.false_answers.specs.Statements.{DeadAsAlive, AliveAsDead, WrongPlaces, FeedAsDead, DroppedWord, SecretWord, FrontKept}
use Rattle.false_answers.specs.Statements.{InventedWords, EarlyEnd, LeftWords, RefusedJudgement, ClosedCall, OpenedBeyond, BackBeyond}
use Rattle.false_answers.specs.Statements.{WhatIsWritten, LackingRecord, StrangeRecord, RecordTwice, OutOfOrder}

-- Two different constructors are never equal.
pub clash : {P : Type 0} → ◌≡◌ {A = ℕ} 0 1 → P
clash e = absurd (omega arith)

-- What the law says of the last call.
pub last_right : {src : Source} {h : History} {m k : Held} {c : Call} {a : Answer} → Keeps src h m → Law src (then h c a) k → Right src m c a k
last_right {m = m} {k = k} keeps law = law.right.1 m k keeps law.keeps

pub longer : {P : Type 0} (ws : List ℕ) (t : ℕ) → ws ≡ ws ++ t ∷ [] → P
longer ws t e = absurd (omega (arith, simp length-append at (ap length e)))

same_words : {n k : ℕ} {ws vs : List ℕ} → opened n ws ≡ opened k vs → ws ≡ vs
same_words e = cc

refuses_45 : (a : Reply) → RefusedAs 45 a → Refuses a
refuses_45 done x = x
refuses_45 (judged b) x = x
refuses_45 (counted p q) x = x
refuses_45 (refused r) x = tt
refuses_45 (word_refused r p q) x = tt

pub dead_as_alive : DeadAsAlive
dead_as_alive src h n t ws keeps dead a not_45 m law =
    let right : TakeRight src n ws t a m = last_right keeps law in
    not_45 (right.dead_end.1 dead)

pub alive_as_dead : AliveAsDead
alive_as_dead src h n t ws keeps alive a is_45 m law =
    let right : TakeRight src n ws t a m = last_right keeps law in
    (right.dead_end.0 is_45).none alive.0 alive.1

pub wrong_places : WrongPlaces
wrong_places src h n t ws keeps a is_45 other m law =
    let right : TakeRight src n ws t a m = last_right keeps law in
    other (right.places is_45)

pub dropped_word : DroppedWord
dropped_word src h n t ws keeps a is law =
    let right : TakeRight src n ws t a (opened n ws) = last_right keeps law in
    elim right.nothing_else [
      | inl e ↦ longer ws t (same_words (right.kept.0 e))
      | inr x ↦ let q : refused x.0 ≡ done = sym (ap reply_of x.1) ∙ is in let z : ◌≡◌ {A = ℕ} 0 1 = cc in clash z
    ]

pub secret_word : SecretWord
secret_word src h n t ws keeps a is law =
    let right : TakeRight src n ws t a (opened n (ws ++ t ∷ [])) = last_right keeps law in
    longer ws t (sym (same_words (right.stays.0 is)))

pub refused_judgement : RefusedJudgement
refused_judgement src h n ws keeps a is m law =
    let right = (last_right {m = opened n ws} {k = m} {c = judge} {a = a} keeps law).0 in
    let e : reply_of a ≡ judged right.verdict.yes_or_no = ap reply_of right.answer ∙ right.verdict.answer in
    subst Refuses e is

pub closed_call : ClosedCall
closed_call src h keeps (open_with n) no_open a other m law = no_open n refl
closed_call src h keeps (take_word t) no_open a other m law = other (last_right {c = take_word t} keeps law).answer
closed_call src h keeps (read_through c) no_open a other m law = other (last_right {c = read_through c} keeps law).answer
closed_call src h keeps (back_to b) no_open a other m law = other (last_right {c = back_to b} keeps law).answer
closed_call src h keeps judge no_open a other m law = other (last_right {c = judge} keeps law).answer
closed_call src h keeps (gather ns bs) no_open a other m law = other (last_right {c = gather ns bs} keeps law).answer

-- A refusal is not done.
refused_done : {r : Refusal} {a : Answer} → a ≡ plain (refused r) → reply_of a ≡ done → ⊥
refused_done {r} e d = let q : refused r ≡ done = sym (ap reply_of e) ∙ d in let z : ◌≡◌ {A = ℕ} 0 1 = cc in clash z

opened_right : {src : Source} {h : History} {k m : Held} {n : ℕ} {a : Answer} → Keeps src h k → Law src (then h (open_with n) a) m → OpenRight src k n a m
opened_right {k = closed} keeps law = last_right {m = closed} keeps law
opened_right {k = opened l ws} keeps law = last_right {m = opened l ws} keeps law

pub opened_beyond : OpenedBeyond
opened_beyond src h k keeps n none a is m law = refused_done ((opened_right keeps law).no_limit none) is

pub back_beyond : BackBeyond
back_beyond src h n b ws keeps less a is m law =
    let right : BackRight n ws b a m = last_right keeps law in
    refused_done (right.beyond less) is

-- The reply of a read-through is right, whatever was held.
pub record Through (src : Source) (n : ℕ) (ws : List ℕ) (c : Coming) (a : Answer) (m : Held) : Type 0 where
  pub coming : Coming
  pub answer : a ≡ and_feed (reply_of a) coming
  pub words : List ℕ
  pub holds : m ≡ opened n words
  pub right : ReadRight src n ws c (reply_of a) words coming

pub through : {src : Source} {h : History} {n : ℕ} {ws : List ℕ} {c : Coming} {a : Answer} {m : Held} → Keeps src h (opened n ws)
    → Law src (then h (read_through c) a) m → Through src n ws c a m
through {src} {h} {n} {ws} {c} {a} {m} keeps law =
    let x = last_right {m = opened n ws} {k = m} {c = read_through c} {a = a} keeps law in
    let same : x.reply ≡ reply_of a = sym (ap reply_of x.answer) in
    record {
      coming = x.coming;
      answer = x.answer ∙ ap (λ y. and_feed y x.coming) same;
      words = x.words;
      holds = x.holds;
      right = subst (λ y. ReadRight src n ws c y x.words x.coming) same x.right;
    }

-- The words of a feed, up to the one at which a read-through stopped and from there on.
stopped_in : {src : Source} {n : ℕ} {ws vs : List ℕ} {c d : Coming} {a : Reply} (x : ReadRight src n ws c a vs d)
    → (w : Word) (behind : List Word) → x.rest ≡ w ∷ behind
    → ws ++ terminals_of c.words ≡ (vs ++ w.terminal ∷ []) ++ terminals_of behind
stopped_in {ws = ws} {vs = vs} x w behind e =
    let whole = ap terminals_of (x.held ∙ ap (λ y. x.added ++ y) e) in
    simp (whole, map-append, x.kept, append_assoc)

pub front_kept : FrontKept
front_kept src h n ws keeps c a m law =
    let x = through keeps law in
    (x.right.added, x.right.rest, x.right.held, x.holds ∙ ap (opened n) x.right.kept)

module _ {src : Source} {n : ℕ} {ws : List ℕ} {c : Coming} (none : c.fault ≡ None)
    (alive : Begins src.grammar (ws ++ terminals_of c.words)) where
  not_45 : {a : Reply} {vs : List ℕ} {d : Coming} (x : ReadRight src n ws c a vs d) → RefusedAs 45 a → (rest : List Word) → x.rest ≡ rest → ⊥
  not_45 {a} x is [] e = let v = x.at_end e none in subst (RefusedAs 45) v.answer is
  not_45 {a} {vs} x is (w ∷ behind) e =
      let dead = (x.dead_end w behind e).0 is in
      let up : List ℕ = vs ++ w.terminal ∷ [] in
      let whole = ap (λ y. y ++ alive.0) (stopped_in x w behind e) ∙ append_assoc up (terminals_of behind) alive.0 in
      dead.none (terminals_of behind ++ alive.0) (subst (Sentence src.grammar) whole alive.1)

pub feed_as_dead : FeedAsDead
feed_as_dead src h n ws keeps c none alive a is_45 m law =
    let x = through keeps law in
    not_45 none alive x.right is_45 x.right.rest refl

-- A list that begins with w has no front but the empty one and those that begin with w.
module _ (ws : List ℕ) (w : Word) (cs : List Word) (us : List ℕ)
    (no_front : (front rest : List Word) → cs ≡ front ++ rest → us ≢ terminals_of front) where
  no_such : (added rest : List Word) → w ∷ cs ≡ added ++ rest → ws ++ w.terminal ∷ us ≡ ws ++ terminals_of added → ⊥
  no_such [] rest e k = absurd (omega (arith, simp length-append at (ap length k)))
  no_such (v ∷ added) rest e k =
      let tail : cs ≡ added ++ rest = cc in
      let behind : w.terminal ∷ us ≡ v.terminal ∷ terminals_of added = append_cancel_left ws _ _ k in
      let same : us ≡ terminals_of added = cc in
      no_front added rest tail same

pub invented_words : InventedWords
invented_words src h n ws keeps c w cs is us no_front a law =
    let x = through keeps law in
    no_such ws w cs us no_front x.right.added x.right.rest (sym is ∙ x.right.held) (same_words x.holds ∙ x.right.kept)

pub judges : {a : Reply} {b : Bool} → a ≡ judged b → Refuses a → ⊥
judges e r = subst Refuses e r

pub early_end : EarlyEnd
early_end src h n ws keeps c b a is m other law =
    let x = through keeps law in
    let all = (x.right.whole (judges is)).0 in
    let held : c.words ≡ x.right.added = x.right.held ∙ ap (λ y. x.right.added ++ y) all ∙ append-nil x.right.added in
    other (x.holds ∙ ap (opened n) (x.right.kept ∙ ap (λ y. ws ++ terminals_of y) (sym held)))

pub left_words : LeftWords
left_words src h n ws keeps c d some b m law =
    let x = through keeps law in
    let all = (x.right.whole (judges {b = b} refl)).0 in
    let same : d ≡ x.coming = let e = x.answer in cc in
    some (ap (λ y. y.words) same ∙ x.right.left ∙ ap (drop 1) all)

-- Two lists in front of blanks.
front_same : {X : Type 0} (xs us : List X) (x : X) (n k : ℕ) → length xs ≡ length us → xs ++ replicate n x ≡ us ++ replicate k x → xs ≡ us
front_same xs us x n k long e =
    sym (take-append_seam xs (replicate n x)) ∙ ap (take (length xs)) e
    ∙ ap (λ y. take y (us ++ replicate k x)) long ∙ take-append_seam us (replicate k x)

pub what_is_written : WhatIsWritten
what_is_written src h n ws keeps ns xs bs ys m law =
    let right = (last_right {m = opened n ws} {k = m} {c = gather ns bs} {a = written ns bs xs ys} keeps law).0 in
    let (s, all) = right.counts (length xs) (length ys) refl in
    let e = all.answer in
    let long : length xs ≡ length all.nodes = cc in
    let wide : length ys ≡ length all.alternatives = cc in
    let front : filled xs (length ns) blank_node ≡ filled all.nodes (length ns) blank_node = cc in
    let back : filled ys (length bs) blank_alternative ≡ filled all.alternatives (length bs) blank_alternative = cc in
    let nodes : xs ≡ all.nodes = front_same xs all.nodes blank_node (length ns - length xs) (length ns - length all.nodes) long front in
    let alternatives : ys ≡ all.alternatives =
    front_same ys all.alternatives blank_alternative (length bs - length ys) (length bs - length all.alternatives) wide back in (
      s,
      subst (Nodes src.grammar ws) (sym nodes) all.nodes_are,
      subst (Alternatives src.grammar ws) (sym alternatives) all.alternatives_are,
    )

pub lacking_record : LackingRecord
lacking_record src h n ws keeps ns xs bs ys (inl (z, o, none)) m law =
    none ((what_is_written src h n ws keeps ns xs bs ys m law).1.each z o)
lacking_record src h n ws keeps ns xs bs ys (inr (z, o, none)) m law =
    none ((what_is_written src h n ws keeps ns xs bs ys m law).2.each z o)

pub strange_record : StrangeRecord
strange_record src h n ws keeps ns xs bs ys (inl (z, o, none)) m law =
    none ((what_is_written src h n ws keeps ns xs bs ys m law).1.only z o)
strange_record src h n ws keeps ns xs bs ys (inr (z, o, none)) m law =
    none ((what_is_written src h n ws keeps ns xs bs ys m law).2.only z o)

pub record_twice : RecordTwice
record_twice src h n ws keeps ns xs bs ys (inl twice) m law =
    twice (climbs_apart by_node xs (what_is_written src h n ws keeps ns xs bs ys m law).1.order)
record_twice src h n ws keeps ns xs bs ys (inr twice) m law =
    twice (climbs_apart by_alternative ys (what_is_written src h n ws keeps ns xs bs ys m law).2.order)

pub out_of_order : OutOfOrder
out_of_order src h n ws keeps ns xs bs ys (inl other) m law = other (what_is_written src h n ws keeps ns xs bs ys m law).1.order
out_of_order src h n ws keeps ns xs bs ys (inr other) m law = other (what_is_written src h n ws keeps ns xs bs ys m law).2.order
