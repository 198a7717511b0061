-- What the table tells: what fits, by the words and the links.
use Rattle.std.proofs.Common.{◌≡◌, ℕ, ◌<◌, Bool, true, false, List, length, Some, sym, ap, ◌∙◌, inl, inr, true≢false, arith}
use Rattle.std.proofs.lemmas.List.{get_or_default}
use Rattle.parsing.specs.Grammar.{Nonterminal}
use Rattle.parsing.specs.Items.{Source}
use Rattle.spans.specs.Spans.{Spans, IsWord, Answers}
use Rattle.register.specs.Lists.{Has}
use Rattle.link_growth.specs.declared.Link.{Link}
use Rattle.forest.specs.Tables.{Grown, OfWord, OfLinks, link_of}
use Rattle.forest.specs.Forests.{Among, link_at}

module _ (src : Source) (ws : List ℕ) (ks : List Link) (none words fits : ℕ → ℕ → ℕ → Bool) (empty : (x i j : ℕ) → none x i j ≡ false)
    (by_words : Grown (OfWord src.grammar ws (length ws)) none words) (by_links : Grown (OfLinks src ks (length ks)) words fits) where
  word_here : (X i j : ℕ) → X < src.grammar.terminals → fits X i j ≡ true → IsWord ws X i j
  word_here X i j t h = elim (by_links.only X i j h) [
    | inl w ↦ elim (by_words.only X i j w) [ inl e ↦ absurd (true≢false (sym e ∙ empty X i j)) | inr o ↦ o.here ]
    | inr o ↦ let l = o.of.nonterminal.low in absurd (omega arith)
  ]

  here_word : (X i j : ℕ) → X < src.grammar.terminals → IsWord ws X i j → fits X i j ≡ true
  here_word X i j t w = by_links.kept X i j (by_words.whole X i j (record { terminal = t; here = w; early = w.inside }))

  spans_here : (X i j : ℕ) → Nonterminal src.grammar X → fits X i j ≡ true → Spans src (Among ks) X i j
  spans_here X i j nt h = elim (by_links.only X i j h) [
    | inl w ↦ elim (by_words.only X i j w) [
      | inl e ↦ absurd (true≢false (sym e ∙ empty X i j))
      | inr o ↦ let t = o.terminal in let l = nt.low in absurd (omega arith)
    ]
    | inr o ↦
        let k = link_of ks o.index in
        let f = o.of.from in
        let t = o.of.to in
        let same : k ≡ link_at k.state j k.below i = λ r. record { state = k.state; place = sym t r; below = k.below; below_place = sym f r } in
        let has : Has ks (link_at k.state j k.below i) =
        (o.index, o.index_in, λ d. get_or_default ks o.index d (link_at 0 0 0 0) o.index_in ∙ same) in
        (k.state, k.below, (has, o.of.forward), o.of.enters)
  ]

  here_spans : (X i j : ℕ) → Nonterminal src.grammar X → Spans src (Among ks) X i j → fits X i j ≡ true
  here_spans X i j nt (s, b, ((t, l, q), forward), e) =
      let k : link_of ks t ≡ link_at s j b i = q (link_at 0 0 0 0) in
      by_links.whole X i j (record {
        index = t;
        index_in = l;
        of = record {
          nonterminal = nt;
          enters = ap (λ (v : Link). src.next v.below X) k ∙ e ∙ ap (λ (v : Link). Some v.state) (sym k);
          from = ap (λ (v : Link). v.below_place) (sym k);
          to = ap (λ (v : Link). v.place) (sym k);
          forward = forward;
        };
      })

  pub answers : Answers src (Among ks) ws fits
  answers = record {
    words = λ X i j t. (word_here X i j t, here_word X i j t);
    spans = λ X i j nt. (spans_here X i j nt, here_spans X i j nt);
  }
