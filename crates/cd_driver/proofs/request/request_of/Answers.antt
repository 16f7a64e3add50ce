use Rattle.cd_driver.proofs.Asking.{texts_four, texts_five}
use Rattle.cd_driver.proofs.request.request_of.Goals as goal

pub returns-in-len4 : goal.returns-in-len4
returns-in-len4 c =
    rw (texts_four c.args.words.now c.name-item-then-words-lt5.result c.a-item-then-words-lt5.result c.b-item-then-words-lt5.result c.c-item.result
    c.as_str-in-len4.result.now c.as_str-in-len4-2.result.now c.as_str-in-len4-3.result.now c.as_str-in-len4-4.result.now
    c.in-len4.len_at_least c.in-len4.len_below
    c.name-item-then-words-lt5.is c.a-item-then-words-lt5.is c.b-item-then-words-lt5.is c.c-item.is
    c.as_str-in-len4.ensures.value c.as_str-in-len4-2.ensures.value c.as_str-in-len4-3.ensures.value c.as_str-in-len4-4.ensures.value)
    c.of_four.ensures

pub returns-in-len5 : goal.returns-in-len5
returns-in-len5 c =
    rw (texts_five c.args.words.now c.name-item-then-words-lt6.result c.a-item-then-words-lt6.result c.b-item-then-words-lt6.result c.c-item-then-words-lt6.result c.d-item.result
    c.as_str-in-len5.result.now c.as_str-in-len5-2.result.now c.as_str-in-len5-3.result.now c.as_str-in-len5-4.result.now c.as_str-in-len5-5.result.now
    c.in-len5.len_at_least c.in-len5.len_below
    c.name-item-then-words-lt6.is c.a-item-then-words-lt6.is c.b-item-then-words-lt6.is c.c-item-then-words-lt6.is c.d-item.is
    c.as_str-in-len5.ensures.value c.as_str-in-len5-2.ensures.value c.as_str-in-len5-3.ensures.value c.as_str-in-len5-4.ensures.value c.as_str-in-len5-5.ensures.value)
    c.of_five.ensures
