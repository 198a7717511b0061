-- What the feeds of this crate mean.
--   text_feed_coming f   the words that the text feed f still has
--   key_feed_coming f    the words that the key feed f still has
use Rattle.std.specs.Prelude.{drop}
use Rattle.grammar.specs.Meaning.{sheet}
use Rattle.words.specs.Feeds.{Coming}
use Rattle.words.specs.Keys.{key_coming}
use Rattle.words.specs.Texts.{text_coming}
use Rattle.words.specs.declared.keys.KeyFeed.{KeyFeed}
use Rattle.words.specs.declared.texts.TextFeed.{TextFeed}

abbrev pub text_feed_coming : TextFeed → Coming
text_feed_coming f = text_coming (sheet f.grammar.now) f.place (drop f.place f.text.now)

abbrev pub key_feed_coming : KeyFeed → Coming
key_feed_coming f = key_coming f.terminals f.place (drop f.place f.keys.now)
