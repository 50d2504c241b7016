use Rattle.std.proofs.Common.{ap, ◌∙◌, refl}
use Rattle.hx_board.specs.Sets.{has}
use Rattle.hx_turn.specs.Reversed.{partner}
use Rattle.hx_turn.proofs.Exchanges.{lows_2, lows_4, lows_8, lows_16, lows_32, lows_64, lows_128, partner-small, moved-is}
use Rattle.hx_turn.proofs.reversals.reversed.Goals as goal

pub exchanged-twos-requires-clause-low : goal.exchanged-twos-requires-clause-low
exchanged-twos-requires-clause-low c = lows_2

pub exchanged-fours-requires-clause-low : goal.exchanged-fours-requires-clause-low
exchanged-fours-requires-clause-low c = lows_4

pub exchanged-eights-requires-clause-low : goal.exchanged-eights-requires-clause-low
exchanged-eights-requires-clause-low c = lows_8

pub exchanged-bytes-requires-clause-low : goal.exchanged-bytes-requires-clause-low
exchanged-bytes-requires-clause-low c = lows_16

pub exchanged-words-requires-clause-low : goal.exchanged-words-requires-clause-low
exchanged-words-requires-clause-low c = lows_32

pub exchanged-quarters-requires-clause-low : goal.exchanged-quarters-requires-clause-low
exchanged-quarters-requires-clause-low c = lows_64

pub exchanged-requires-clause-low : goal.exchanged-requires-clause-low
exchanged-requires-clause-low c = lows_128

pub returns : goal.returns
returns c n less =
    let in_64 = partner-small 64 n refl less in
    let at_64 = partner 64 n in
    let in_32 = partner-small 32 at_64 refl in_64 in
    let at_32 = partner 32 at_64 in
    let in_16 = partner-small 16 at_32 refl in_32 in
    let at_16 = partner 16 at_32 in
    let in_8 = partner-small 8 at_16 refl in_16 in
    let at_8 = partner 8 at_16 in
    let in_4 = partner-small 4 at_8 refl in_8 in
    let at_4 = partner 4 at_8 in
    let in_2 = partner-small 2 at_4 refl in_4 in
    c.exchanged.ensures n less
    ∙ c.exchanged-quarters.ensures at_64 in_64
    ∙ c.exchanged-words.ensures at_32 in_32
    ∙ c.exchanged-bytes.ensures at_16 in_16
    ∙ c.exchanged-eights.ensures at_8 in_8
    ∙ c.exchanged-fours.ensures at_4 in_4
    ∙ c.exchanged-twos.ensures (partner 2 at_4) in_2
    ∙ ap (has c.args.bits) (moved-is n less)
