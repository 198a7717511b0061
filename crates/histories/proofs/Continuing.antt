-- Read-throughs by takes, and through two feeds.
use Rattle.std.proofs.Common.{◌≡◌, ℕ, ◌<◌, Bool, true, ◌↔◌, List, [], ◌∷◌, ◌++◌, length, drop, None, Option, sym, refl, ap, ◌∙◌, subst, arith, length-append}
use Rattle.std.proofs.lemmas.List.{append_cancel_right}
use Rattle.grammar.specs.declared.refusal.Refusal.{Refusal}
use Rattle.parsing.specs.Items.{Source}
use Rattle.words.specs.Feeds.{Coming}
use Rattle.words.specs.declared.word.Word.{Word}
use Rattle.histories.specs.Calls.{Held, opened, read_through, judge, Reply, judged, word_refused, plain, and_feed}
use Rattle.histories.specs.Doings.{Accepts, Passes, at_end, at_fault, word_no, word_yes, rest_of, Does, take_no, take_yes, judge_open, through_open}
use Rattle.histories.specs.Laws.{terminals_of}
use Rattle.histories.specs.Continuations.{Continues, stays, goes, takes, Ends, by_judge, by_fault, by_word}
use Rattle.histories.specs.Statements.{OneByOne, TwoFeeds, feed}
use Rattle.histories.proofs.Keeping.{apart}
use Rattle.histories.proofs.Through.{took, took_not}

-- What a read-through over the kept words ws comes from.
record Passed (src : Source) (n : ℕ) (ws : List ℕ) (c d : Coming) (a : Reply) (k : Held) : Type 0 where
  pub words : List ℕ
  pub left : List Word
  pub holds : k ≡ opened n words
  pub coming : d ≡ rest_of c left
  pub passes : Passes src n c.fault ws c.words a words left

passed : {src : Source} {n : ℕ} {ws : List ℕ} {c d : Coming} {a : Reply} {k : Held}
    → Does src (opened n ws) (read_through c) (and_feed a d) k → Passed src n ws c d a k
passed (through_open {vs = vs} {ds = ds} p) = record { words = vs; left = ds; holds = refl; coming = refl; passes = p }

reads : {src : Source} {n : ℕ} {ws : List ℕ} {c d : Coming} {a : Reply} {k : Held} → Passed src n ws c d a k
    → Does src (opened n ws) (read_through c) (and_feed a d) k
reads {src} {n} {ws} {c} {d} {a} {k} x =
    subst (λ y. Does src (opened n ws) (read_through c) (and_feed a y) k) (sym x.coming)
    (subst (λ y. Does src (opened n ws) (read_through c) (and_feed a (rest_of c x.left)) y) (sym x.holds) (through_open x.passes))

-- The same by takes.
record Taken (src : Source) (n : ℕ) (e : Option Refusal) (ws : List ℕ) (cs : List Word) (a : Reply) (vs : List ℕ) (ds : List Word) : Type 0 where
  pub added : List Word
  pub rest : List Word
  pub held : cs ≡ added ++ rest
  pub steps : Continues src (opened n ws) (takes (terminals_of added)) (opened n vs)
  pub ends : Ends src (opened n vs) e rest a
  pub left : ds ≡ drop 1 rest

taken_so : {src : Source} {n : ℕ} {e : Option Refusal} {ws vs : List ℕ} {cs ds : List Word} {a : Reply} → Passes src n e ws cs a vs ds
    → Taken src n e ws cs a vs ds
taken_so (at_end x y) = record { added = []; rest = []; held = refl; steps = stays; ends = by_judge x (judge_open y); left = refl }
taken_so (at_fault x) = record { added = []; rest = []; held = refl; steps = stays; ends = by_fault x; left = refl }
taken_so (word_no {w = w} {cs = cs} x) =
    record { added = []; rest = w ∷ cs; held = refl; steps = stays; ends = by_word (take_no x); left = refl }
taken_so (word_yes {w = w} x p) =
    let r = taken_so p in
    record {
      added = w ∷ r.added;
      rest = r.rest;
      held = ap (λ l. w ∷ l) r.held;
      steps = goes (take_yes x) r.steps;
      ends = r.ends;
      left = r.left;
    }

judged_so : {src : Source} {n : ℕ} {ws : List ℕ} {b : Bool} {k : Held} → Does src (opened n ws) judge (plain (judged b)) k
    → (b ≡ true) ↔ Accepts src ws
judged_so (judge_open x) = x

record Ended (src : Source) (n : ℕ) (e : Option Refusal) (ws : List ℕ) (cs : List Word) (a : Reply) (ds : List Word) (k : Held) : Type 0 where
  pub words : List ℕ
  pub holds : k ≡ opened n words
  pub passes : Passes src n e ws cs a words ds

ended : {src : Source} {n : ℕ} {e : Option Refusal} {ws : List ℕ} {rest : List Word} {a : Reply}
    → Ends src (opened n ws) e rest a → Passes src n e ws rest a ws (drop 1 rest)
ended (by_judge x d) = at_end x (judged_so d)
ended (by_fault x) = at_fault x
ended (by_word d) = word_no (took_not d).1

passes_so : {src : Source} {n : ℕ} {e : Option Refusal} {ws : List ℕ} {a : Reply} {k : Held} (added rest : List Word)
    → Continues src (opened n ws) (takes (terminals_of added)) k → Ends src k e rest a
    → Ended src n e ws (added ++ rest) a (drop 1 rest) k
passes_so {ws = ws} [] rest stays x = record { words = ws; holds = refl; passes = ended x }
passes_so {src} {k = k} (w ∷ added) rest (goes d s) x =
    let (is, met) = took d in
    let r = passes_so added rest (subst (λ y. Continues src y (takes (terminals_of added)) k) is s) x in
    record { words = r.words; holds = r.holds; passes = word_yes met r.passes }

pub one_by_one : OneByOne
one_by_one src n ws c d a k = (
  λ x.
      let p = passed x in
      let t = taken_so p.passes in
      record {
        added = t.added;
        rest = t.rest;
        held = t.held;
        steps = subst (λ y. Continues src (opened n ws) (takes (terminals_of t.added)) y) (sym p.holds) t.steps;
        ends = subst (λ y. Ends src y c.fault t.rest a) (sym p.holds) t.ends;
        left = p.coming ∙ ap (rest_of c) t.left;
      },
  λ t.
      let r = passes_so t.added t.rest t.steps t.ends in
      reads (record {
        words = r.words;
        left = drop 1 t.rest;
        holds = r.holds;
        coming = t.left;
        passes = subst (λ y. Passes src n c.fault ws y a r.words (drop 1 t.rest)) (sym t.held) r.passes;
      }),
)

-- A feed that was read to its end, and then another.
module _ {src : Source} {n : ℕ} {e : Option Refusal} where
  both : {ws vs xs : List ℕ} {cs us ds zs : List Word} {b : Bool} {a : Reply} → Passes src n None ws cs (judged b) vs us
      → Passes src n e vs ds a xs zs → Passes src n e ws (cs ++ ds) a xs zs
  both (at_end x y) q = q
  both (word_yes x p) q = word_yes x (both p q)

  second : {ws vs xs : List ℕ} {cs us ds zs : List Word} {b : Bool} {a : Reply} → Passes src n None ws cs (judged b) vs us
      → Passes src n e ws (cs ++ ds) a xs zs → Passes src n e vs ds a xs zs
  second (at_end x y) q = q
  second (word_yes x p) (word_no y) = apart x y
  second (word_yes x p) (word_yes y q) = second p q

  fewer : {ws vs : List ℕ} {cs us : List Word} {r : Refusal} {p q : ℕ} → Passes src n e ws cs (word_refused r p q) vs us → length us < length cs
  fewer (word_no x) = omega arith
  fewer (word_yes x p) = let h = fewer p in omega arith

-- A feed of which a word was refused, with another behind it.
module _ {src : Source} {n : ℕ} (e : Option Refusal) (ds : List Word) where
  first : {ws vs : List ℕ} {cs us : List Word} {r : Refusal} {p q : ℕ} → Passes src n None ws cs (word_refused r p q) vs us
      → Passes src n e ws (cs ++ ds) (word_refused r p q) vs (us ++ ds)
  first (word_no x) = word_no x
  first (word_yes x p) = word_yes x (first p)

  alone : {ws vs : List ℕ} (cs us : List Word) {zs : List Word} {r : Refusal} {p q : ℕ} → Passes src n e ws (cs ++ ds) (word_refused r p q) vs zs
      → zs ≡ us ++ ds → Passes src n None ws cs (word_refused r p q) vs us
  alone [] us x h = absurd (omega (arith, fewer x, simp length-append at (ap length h)))
  alone {ws = ws} (w ∷ cs) us (word_no {r = r} x) h =
      subst (λ y. Passes src n None ws (w ∷ cs) (word_refused r w.from w.to) ws y) (append_cancel_right cs us ds h) (word_no x)
  alone (w ∷ cs) us (word_yes x p) h = word_yes x (alone cs us p h)

pub two_feeds : TwoFeeds
two_feeds src n ws cs ds e k = record {
  onward = λ b d x a f j.
      let p = passed x in (
        λ y.
            let q = passed (subst (λ z. Does src z (read_through (feed ds e)) (and_feed a f) j) p.holds y) in
            reads (record { words = q.words; left = q.left; holds = q.holds; coming = q.coming; passes = both p.passes q.passes }),
        λ y.
            let q = passed y in
            subst (λ z. Does src z (read_through (feed ds e)) (and_feed a f) j) (sym p.holds)
            (reads (record { words = q.words; left = q.left; holds = q.holds; coming = q.coming; passes = second p.passes q.passes })),
      );
  stops = λ r p q us. (
    λ x.
        let y = passed x in
        let same : us ≡ y.left = ap (λ z. z.words) y.coming in
        reads (record {
          words = y.words;
          left = us ++ ds;
          holds = y.holds;
          coming = refl;
          passes = subst (λ z. Passes src n e ws (cs ++ ds) (word_refused r p q) y.words (z ++ ds)) (sym same) (first e ds y.passes);
        }),
    λ x.
        let y = passed x in
        let same : us ++ ds ≡ y.left = ap (λ z. z.words) y.coming in
        reads (record { words = y.words; left = us; holds = y.holds; coming = refl; passes = alone e ds cs us y.passes (sym same) }),
  );
}
