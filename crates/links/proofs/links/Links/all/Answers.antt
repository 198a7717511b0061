use Rattle.links.proofs.Contents.{content_once}
use Rattle.links.proofs.Places.{rising}
use Rattle.links.proofs.links.Links.all.Goals as goal

pub returns-clause-once : goal.returns-clause-once
returns-clause-once c = content_once c.args.self.now.table

pub returns-clause-rising : goal.returns-clause-rising
returns-clause-rising c = rising c.args.self.now.table
