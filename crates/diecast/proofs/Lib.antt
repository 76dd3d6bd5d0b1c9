mod Supplied
