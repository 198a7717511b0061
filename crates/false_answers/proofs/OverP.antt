-- What the law refutes over the grammar P.
use Rattle.std.proofs.Common.{◌≡◌, ℕ, ◌<◌, true, false, List, [], ◌∷◌, ◌++◌, length, sym, ap, ◌∙◌, subst, append-nil, arith}
use Rattle.std.proofs.lemmas.Bool.{false≢true}
use Rattle.parsing.specs.Grammar.{Grammar, Sentence}
use Rattle.parsing.specs.Items.{Source}
use Rattle.records.specs.Orders.{by_node, by_alternative}
use Rattle.records.specs.declared.node.Node.{Node}
use Rattle.records.specs.declared.alternative.Alternative.{Alternative}
use Rattle.histories.specs.Calls.{Held, opened, judge, gather, Answer, reply_of}
use Rattle.histories.specs.Forests.{Nodes, Alternatives}
use Rattle.histories.specs.Doings.{written}
use Rattle.histories.specs.Histories.{History, then, Keeps}
use Rattle.histories.specs.Laws.{NoneBegins, Verdict, terminals_of, Law}
use Rattle.histories.proofs.Listing.{listed_same, listed_room}
use Rattle.known.specs.Samples.{p, p_eight}
use Rattle.known.proofs.Theorem.{p_two_right, p_eight_right}
use Rattle.false_answers.specs.Statements.{FirstAsDead, SecondAsAlive, NoOfSentence, YesOfNone, EarlyYes}
use Rattle.false_answers.specs.Statements.{Eight, OneGather, EmptyGather, OneNodeMore, OneAlternativeMore}
use Rattle.false_answers.proofs.Refuting.{last_right, through, judges, dead_as_alive, alive_as_dead, what_is_written}
use Rattle.false_answers.proofs.Sentences.{three_none, second_begins_none}

module _ {G : Grammar} (e : G ≡ p.grammar) (F : Grammar → Type 0) where
  -- What holds of P holds of a grammar that is P, and the other way.
  over : F p.grammar → F G
  over = subst F (sym e)

  under : F G → F p.grammar
  under = subst F e

pub first_as_dead : FirstAsDead
first_as_dead src e h n keeps = alive_as_dead src h n 0 [] keeps (1 ∷ [], over e (λ g. Sentence g (0 ∷ 1 ∷ [])) p_two_right.sentence)

pub second_as_alive : SecondAsAlive
second_as_alive src e h n keeps =
    dead_as_alive src h n 1 [] keeps (record {
      room = omega arith;
      terminal = over e (λ g. 1 < g.terminals) (omega arith);
      none = over e (λ g. NoneBegins g (1 ∷ [])) second_begins_none;
    })

-- The verdict is of the reply, in whatever form.
verdict : {src : Source} {h : History} {n : ℕ} {ws : List ℕ} {a : Answer} {m : Held} → Keeps src h (opened n ws) → Law src (then h judge a) m
    → Verdict src.grammar ws (reply_of a)
verdict {src} {h} {n} {ws} {a} {m} keeps law =
    let right = (last_right {m = opened n ws} {k = m} {c = judge} {a = a} keeps law).0 in
    subst (Verdict src.grammar ws) (sym (ap reply_of right.answer)) right.verdict

pub no_of_sentence : NoOfSentence
no_of_sentence src e h n keeps a is m law =
    let v = verdict keeps law in
    let told : v.yes_or_no ≡ true = v.exact.1 (over e (λ g. Sentence g (0 ∷ 1 ∷ [])) p_two_right.sentence) in
    let answer = v.answer in
    let z : false ≡ true = cc in
    absurd (false≢true z)

pub yes_of_none : YesOfNone
yes_of_none src e h n keeps a is m law =
    let v = verdict keeps law in
    let answer = v.answer in
    let told : v.yes_or_no ≡ true = cc in
    three_none (under e (λ g. Sentence g (0 ∷ 1 ∷ 2 ∷ [])) (v.exact.0 told))

pub early_yes : EarlyYes
early_yes src e h n keeps c is a is_yes m law =
    let x = through keeps law in
    let (all, _, v) = x.right.whole (judges is_yes) in
    let answer = v.answer in
    let true_so : v.yes_or_no ≡ true = cc in
    let held : c.words ≡ x.right.added = x.right.held ∙ ap (λ y. x.right.added ++ y) all ∙ append-nil x.right.added in
    let kept : x.words ≡ 0 ∷ 1 ∷ 1 ∷ [] = x.right.kept ∙ ap terminals_of (sym held) ∙ is in
    three_none (subst (Sentence p.grammar) kept (under e (λ g. Sentence g x.words) (v.exact.0 true_so)))

module _ {src : Source} {h : History} (at : Eight src h) where
  eight_nodes : Nodes src.grammar p_eight.words p_eight.nodes
  eight_nodes = over at.over (λ g. Nodes g p_eight.words p_eight.nodes) p_eight_right.nodes

  eight_alternatives : Alternatives src.grammar p_eight.words p_eight.alternatives
  eight_alternatives = over at.over (λ g. Alternatives g p_eight.words p_eight.alternatives) p_eight_right.alternatives

  -- What is written is the six nodes and the seven alternatives.
  eight_written : (ns xs : List Node) (bs ys : List Alternative) (m : Held) → Law src (then h (gather ns bs) (written ns bs xs ys)) m
      → (xs ≡ p_eight.nodes) × (ys ≡ p_eight.alternatives)
  eight_written ns xs bs ys m law =
      let w = what_is_written src h at.limit p_eight.words at.keeps ns xs bs ys m law in
      (listed_same by_node w.1 eight_nodes, listed_same by_alternative w.2 eight_alternatives)

pub one_gather : OneGather
one_gather src h at ns bs six seven a m law =
    let right = (last_right {m = opened at.limit p_eight.words} {k = m} {c = gather ns bs} {a = a} at.keeps law).0 in
    let all = right.room (over at.over (λ g. Sentence g p_eight.words) p_eight_right.sentence)
    (listed_room by_node (eight_nodes at) six) (listed_room by_alternative (eight_alternatives at) seven) in
    let xs = listed_same by_node all.nodes_are (eight_nodes at) in
    let ys = listed_same by_alternative all.alternatives_are (eight_alternatives at) in
    all.answer ∙ (λ i. written ns bs (xs i) (ys i))

pub empty_gather : EmptyGather
empty_gather src h at ns bs m law = absurd (omega (arith, ap length (eight_written at ns [] bs [] m law).0))

pub one_node_more : OneNodeMore
one_node_more src h at ns bs x m law =
    absurd (omega (arith, ap length (eight_written at ns (p_eight.nodes ++ x ∷ []) bs p_eight.alternatives m law).0))

pub one_alternative_more : OneAlternativeMore
one_alternative_more src h at ns bs x m law =
    absurd (omega (arith, ap length (eight_written at ns p_eight.nodes bs (p_eight.alternatives ++ x ∷ []) m law).1))
