use Rattle.std.proofs.Common.{◌∙◌, ap}
use Rattle.std.specs.Option.{option_map}
use Rattle.filing_index.specs.Found.{passing, side_of}
use Rattle.filing_index.specs.Wanted.{is_wanted, hash_of, hashed_by}
use Rattle.filing_index.proofs.WantedHashes.{hash_of_wanted}
use Rattle.filing_index.proofs.FoundEntries.{found_is}
use Rattle.sorted_pages.specs.Ranges.{within}
use Rattle.filing_index.proofs.look_ups.Found.of_hash.Goals as goal

pub returns : goal.returns
returns c = λ facts index.
    let w = c.args.wanted in
    let after = option_map (λ t. t.now) c.args.after in
    let hashed = ap (λ n. within (side_of n after) c.args.index.now) c.requires in
    ap (passing (is_wanted w)) (c.range-entries.ensures.entries ∙ hashed)
    ∙ found_is (hash_of w) after (is_wanted w) (hashed_by w) (hash_of_wanted w)
    facts c.args.index.now c.range-entries.ensures.rising index
