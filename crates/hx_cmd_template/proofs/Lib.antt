mod OneAnswer
mod KeptPromises
